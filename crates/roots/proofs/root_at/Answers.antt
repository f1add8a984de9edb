-- `roots::root_at` meets its contract: the parts fit in 64 bits, and are no NaN's. Assumes nothing.
use Prim.Native.Nat.{ℕ, ◌+◌, ◌*◌, ◌/◌, ◌%◌, ◌^◌, ◌≤◌}
use mathlib.Core.Path.{◌≡◌, ap, ◌∙◌}
use native.Mathlib.Nat.{mod-eq_of_lt}
use native.Mathlib.Omega.{arith}
use lib.Ieee.{binary64, of_bits}
use Rattle.roots.specs.Root.{round_root, root_at}
use Rattle.roots.proofs.Doubles.{no_nan}
use Rattle.roots.proofs.Nearest.{shifted, half}
use Rattle.roots.proofs.root_at.Goals as goal
use Rattle.roots.proofs.root_at.Goals.{After-rounded_root-root, Start}

-- the shift loses nothing
kept : (c : goal.Start) → c.args.a * 2 ^ (c.args.e % 2) % 2 ^ 64 ≡ c.args.a * 2 ^ (c.args.e % 2)
kept c = let s = shifted c.args.a c.args.e c.requires.0 c.requires.1 in mod-eq_of_lt (omega arith)

rounded-is : (c : goal.After-rounded_root-root) → c.rounded_root-root.result ≡ round_root (c.args.a * 2 ^ (c.args.e % 2))
rounded-is c = c.rounded_root-root.ensures ∙ ap round_root (kept c.before)

small : (c : goal.After-rounded_root-root) → c.rounded_root-root.result ≤ 2 ^ 53
small c =
    omega (arith, rounded-is c, (half c.args.a c.args.e c.requires.0 c.requires.1).to)

pub rounded_root-root-requires : goal.rounded_root-root-requires
rounded_root-root-requires c = omega (arith, kept (goal.at.rounded_root-root-requires c).Start, shifted c.args.a c.args.e c.requires.0 c.requires.1)

pub overflow_add-result : goal.overflow_add-result
overflow_add-result c = omega (arith, small (goal.at.overflow_add-result c).After-rounded_root-root)

pub float_from_bits-result : goal.float_from_bits-result
float_from_bits-result c = no_nan _ (omega (arith, small (goal.at.float_from_bits-result c).After-rounded_root-root))

pub returns : goal.returns
unfolding root_at
returns c =
    let e = c.args.e in
    let put : e / 2 * 2 ^ 52 % 2 ^ 64 ≡ e / 2 * 2 ^ 52 = omega arith in
    ap (λ (x : ℕ). of_bits binary64 (x + c.rounded_root-root.result)) put ∙ ap (λ (x : ℕ). of_bits binary64 (e / 2 * 2 ^ 52 + x)) (rounded-is (goal.at.returns c).After-rounded_root-root)
