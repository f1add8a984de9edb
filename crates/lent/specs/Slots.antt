-- What stands in the slots before a call, and what of them a record's call is lent. Definitions only.
use Rattle.std.specs.Prelude.{ℕ, List, take, replicate, Float}
use Rattle.std.specs.Float.{binary64}
use Rattle.std.specs.Float.Ieee.{of_bits}
use Rattle.words.specs.declared.Record.{Record}
use Rattle.words.specs.Words.{word_at}
use Rattle.lent.specs.declared.Slots.{Slots}

-- What stood in the slices of 32 bits before the call.
abbrev pub old32 : ℕ
old32 = 0xa5a5a5a5

-- In those of 64 bits.
abbrev pub old64 : ℕ
old64 = 0xa5a5a5a5a5a5a5a5

-- In those of floats.
abbrev pub old_f : Float
old_f = of_bits binary64 0xc0fe240c9fbe76c9

-- All slots before a call.
abbrev pub old_slots : Slots
old_slots =
    record {
      narrow = replicate 160 old32;
      wide = replicate 160 old64;
      floats = replicate 160 old_f;
      back = replicate 160 old_f;
      w32 = replicate 2200 old32;
      w64 = replicate 220 old64;
      wf = replicate 1300 old_f;
    }

-- The front of slots that is as long as one of a record's lengths says.
abbrev pub lent_front : {A : Type 0} → Record → ℕ → List A → List A
lent_front r which slots = take (word_at r.words.now r.parts.lengths which) slots
