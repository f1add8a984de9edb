-- Laws of a line's value and of where the next line begins.
-- Assumes nothing.
use mathlib.Core.Path.{◌≡◌, sym, ◌∙◌}
use mathlib.Core.Bool.{Bool, true, false, cond}
use mathlib.Core.List.{List}
use Prim.Native.Nat.{ℕ, ◌+◌, ◌<◌, ◌≤◌}
use native.Mathlib.Omega.{arith}
use lib.ListN.{length, take, drop, length-drop, drop_of_length-le}
use Rattle.std.specs.Prelude.{Option, Some, None, nat_eq, option_map}
use Rattle.std.specs.Cmp.Lexicographic.{pointwise}
use Rattle.std.proofs.lemmas.Option.{option_and_then_some, some_pair_parts}
use Rattle.std.proofs.lemmas.Slice.{between_to_end}
use Rattle.text.specs.Text.{starts, place_of}
use Rattle.text.proofs.Words.{place_below, starts_pointwise, pointwise_flip}
use Rattle.lines.specs.Lines.{value_to, value_of, edge_of, edge_key, edge_line}
use Rattle.lines.specs.declared.Edge.{Edge}

-- a text that begins with a key agrees with it byte by byte
begun : (key line : List ℕ) {t : Bool} → pointwise nat_eq (take (length key) line) key ≡ t → starts key line ≡ t
begun key line h = starts_pointwise key line ∙ pointwise_flip key (take (length key) line) ∙ h

-- the value of a line, whose text goes on as `rest`
module _ (key s : List ℕ) (at : ℕ) where
  pub past_the_end : length s < at → value_of key s at ≡ None
  unfolding value_of place_of
  past_the_end h = let l : length s ≤ at = omega arith in rw (drop_of_length-le s l)

  pub no_newline : {rest : List ℕ} → rest ≡ drop at s → None ≡ place_of 10 rest → value_of key s at ≡ None
  unfolding value_of
  no_newline {rest} r p = rw (sym r, sym p)

  pub other_key : {rest : List ℕ} {end : ℕ} → rest ≡ drop at s → Some end ≡ place_of 10 rest → pointwise nat_eq (take (length key) (take end rest)) key ≡ false → value_of key s at ≡ None
  unfolding value_of
  other_key {rest} {end} r p k = rw (sym r, sym p) (rw (sym r, begun key (take end rest) k))

  pub a_value : {rest value : List ℕ} {end : ℕ} → rest ≡ drop at s → Some end ≡ place_of 10 rest → pointwise nat_eq (take (length key) (take end rest)) key ≡ true → value ≡ drop (length key) (take end rest) → value_of key s at ≡ Some (value, at + end + 1)
  unfolding value_of
  a_value {rest} {value} {end} r p k v = rw (sym r, sym p) (rw (sym r, begun key (take end rest) k, v))

  -- the next line begins past the newline, and so past where the line begins
  pub value_next : {value : List ℕ} {next : ℕ} → value_of key s at ≡ Some (value, next) → (at < next) × (next ≤ length s)
  unfolding value_of
  value_next {value} {next} h = option_and_then_some (value_to key s at) (place_of 10 (drop at s)) (value, next) h found
    where
      within : (t : Bool) (end : ℕ) (line : List ℕ) → option_map {U = List ℕ × ℕ} (λ value. (value, at + end + 1)) (cond t (Some line) None) ≡ Some (value, next) → at + end + 1 ≡ next
      within true end line e = (some_pair_parts line value (at + end + 1) next e).1
      within false end line e = absurd (cc)

      found : (end : ℕ) → place_of 10 (drop at s) ≡ Some end → value_to key s at end ≡ Some (value, next) → (at < next) × (next ≤ length s)
      found end p e =
          let below = place_below 10 (drop at s) end p in
          let n = within (starts key (take end (drop at s))) end (drop (length key) (take end (drop at s))) e in
          (omega (arith, n), omega (arith, n, below, length-drop at s))

-- the line after an edge's
after_edge : (o : Option Edge) (n : ℕ) {edge : Edge} {next : ℕ} → option_map {U = Edge × ℕ} (λ v. (v, n)) o ≡ Some (edge, next) → n ≡ next
after_edge None n e = absurd (cc)
after_edge (Some v) n {edge} {next} e = (some_pair_parts v edge n next e).1

pub edge_next : (s : List ℕ) (at : ℕ) {edge : Edge} {next : ℕ} → edge_line s at ≡ Some (edge, next) → (at < next) × (next ≤ length s)
unfolding edge_line
edge_next s at {edge} {next} h =
    option_and_then_some _ (value_of edge_key s at) (edge, next) h (λ x p e.
    let n = after_edge (edge_of x.0) x.1 e in
    let lies = value_next edge_key s at {value = x.0} {next = x.1} p in
    (omega (arith, n, lies.0), omega (arith, n, lies.1)))

-- how a line can be faulty
pub ruleset faults = (past_the_end, no_newline, other_key, between_to_end)
