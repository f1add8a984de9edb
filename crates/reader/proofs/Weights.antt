-- Making doubles of bits, one after the other; and how many edges a job without a fault has.
-- Assumes nothing.
use mathlib.Core.Path.{◌≡◌, refl, sym, ap}
use mathlib.Core.List.{List, map}
use Prim.Native.Nat.{ℕ, zero, suc, ◌+◌, ◌<◌, ◌≤◌}
use native.Mathlib.Numerals.{add-one}
use lib.ListN.{length, get_or, drop, set, drop_of_length-le}
use lib.Seq.{sets, drop-cons, set_out}
use lib.Ieee.{Float, binary64, of_bits}
use Rattle.lines.specs.Lines.{edge_line}
use Rattle.std.specs.Prelude.{Option, Some, None, Ok}
use Rattle.lines.specs.declared.Edge.{Edge}
use Rattle.reader.specs.Edges.{Edges, line_of, edge_then, edges_from}

pub one_weight : (w : List Float) (bits : List ℕ) (k : ℕ) → k < length bits → sets w k (map (of_bits binary64) (drop k bits)) ≡ sets (set w k (of_bits binary64 (get_or bits k 0))) (k + 1) (map (of_bits binary64) (drop (k + 1) bits))
one_weight w bits k h = rw (add-one k, drop-cons bits k 0 h)

pub no_weight : (w : List Float) (bits : List ℕ) (k : ℕ) → length bits ≤ k → sets w k (map (of_bits binary64) (drop k bits)) ≡ w
no_weight w bits k h = rw (drop_of_length-le bits h)

-- a store past the end changes nothing
pub beyond : {A : Type 0} (l : List A) (k : ℕ) (x : A) → length l ≤ k → l ≡ set l k x
beyond l k x h = sym (set_out l k x h)

-- where no line is faulty there are as many edges as edge lines were asked for
after_line : (line : Option (Edge × ℕ)) (k m : ℕ) (go : ℕ → Edges) → ((next : ℕ) → (go next).read ≡ Ok tt → length (go next).given ≡ m) → (edge_then line (line_of k) go).read ≡ Ok tt → length (edge_then line (line_of k) go).given ≡ suc m
after_line (Some x) k m go h e = ap suc (h x.1 e)
after_line None k m go h e = absurd (cc)

pub all_there : (s : List ℕ) (m k at : ℕ) → (edges_from s m k at).read ≡ Ok tt → length (edges_from s m k at).given ≡ m
unfolding edges_from
all_there s zero k at e = refl
all_there s (suc m) k at e = after_line (edge_line s at) k m (λ next. edges_from s m (k + 1) next) (λ next h. all_there s m (k + 1) next h) e
