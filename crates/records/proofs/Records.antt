-- Laws of the numbers in front of a record and of the parts of its line. Assumes nothing.
use mathlib.Core.Path.{◌≡◌}
use mathlib.Core.Bool.{Bool, true, false}
use mathlib.Core.List.{List, ◌++◌}
use Prim.Native.Nat.{ℕ, ◌+◌, ◌≤◌, ◌<◌}
use native.Mathlib.Numerals.{add-one}
use native.Mathlib.Omega.{arith}
use lib.ListN.{length, drop, get_or, length-append, length-drop, drop_of_length-le}
use lib.Seq.{drop-cons, take_at}
use borrow.Author.Tests.{lt-ltb, le-ltb}
use Rattle.std.specs.Prelude.{Some, None}
use Rattle.records.specs.Records.{with_digit, number_from, Room, with_front}

-- The number after one more digit, at a byte that gives none, and at the end.
pub more : (n m : ℕ) (bytes : List ℕ) (i : ℕ) → i < length bytes → with_digit n (get_or bytes i 0) ≡ Some m → number_from n (drop i bytes) ≡ number_from m (drop (i + 1) bytes)
unfolding number_from
more n m bytes i h k = rw (add-one i, drop-cons bytes i 0 h) (rw k)

pub no_number : (n : ℕ) (bytes : List ℕ) (i : ℕ) → i < length bytes → with_digit n (get_or bytes i 0) ≡ None → number_from n (drop i bytes) ≡ None
unfolding number_from
no_number n bytes i h k = rw (drop-cons bytes i 0 h) (rw k)

pub ended : (n : ℕ) (bytes : List ℕ) (i : ℕ) → length bytes ≤ i → number_from n (drop i bytes) ≡ Some n
unfolding number_from
ended n bytes i h = rw (drop_of_length-le bytes h)

-- what a loop over digits asks
pub ruleset digit_steps = (more, no_number, ended)

-- A line that is too short is as it was.
pub no_room : (n : ℕ) (line : List ℕ) → length line < n → line ≡ with_front n line line
unfolding with_front
no_room n line h = rw (lt-ltb (length line) n h)

-- What stands after the bytes read is as it was.
pub rest_kept :
    (n : ℕ) (line bytes : List ℕ) → n ≤ length line → length (bytes ++ drop n line) ≡ length line → bytes ++ drop n line ≡ with_front n (bytes ++ drop n line) line
unfolding with_front
rest_kept n line bytes h same =
    let e : length bytes ≡ n = omega (arith, length-append bytes (drop n line), length-drop n line) in
    rw (le-ltb (length line) n h, take_at bytes (drop n line) n e)

-- Where bytes fit there is room for them, whether they are there or not.
pub room : (there : Bool) (n : ℕ) (line : List ℕ) → n ≤ length line → Room there n line
room true n line h = h
room false n line h = tt
