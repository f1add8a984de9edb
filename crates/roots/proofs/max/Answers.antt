-- `roots::max` meets its contract: each `return` is the case of `max_of` that its tests leave. Assumes nothing.
use Rattle.roots.proofs.Maximum.{max_less, max_nan, max_more, max_equal_negative, max_equal}
use Rattle.roots.proofs.max.Goals as goal
use Rattle.roots.proofs.max.Goals.{then-less-via-then-less, then-less-via-else-less+then-is_nan, else-a-b-via-then-a-b+else-is_sign_negative, else-a-b-via-else-a-b}

pub returns-then-less : goal.returns-then-less
returns-then-less c =
    let s = c.args in
    elim c.then-less.branch [
      | then-less-via-then-less w ↦ max_less s.a s.b w.if-less.true
      | then-less-via-else-less+then-is_nan w ↦ max_nan s.a s.b w.if-is_nan.ensures.value
    ]

pub returns-then-is_sign_negative : goal.returns-then-is_sign_negative
returns-then-is_sign_negative c = max_equal_negative c.args.a c.args.b c.if-less.false c.if-a-b.true c.if-is_sign_negative.ensures

pub returns : goal.returns
returns c =
    let s = c.args in
    let n = c.if-is_nan.ensures.not_nan in
    elim c.else-a-b.branch [
      | else-a-b-via-then-a-b+else-is_sign_negative w ↦ max_equal s.a s.b n c.if-less.false w.if-a-b.true w.if-is_sign_negative.ensures
      | else-a-b-via-else-a-b w ↦ max_more s.a s.b n c.if-less.false w.if-a-b.false
    ]
