-- `compared::is_other` meets its contract: the slots that are left decide it. Assumes nothing.
use Rattle.std.proofs.Common.{refl, sym, ap, ◌∙◌, get_or}
use Rattle.compared.proofs.Other.{same_slot, other_slot, no_slot, too_short}
use Rattle.compared.proofs.is_other.Goals as goal

pub returns-then-slots-first : goal.returns-then-slots-first
returns-then-slots-first g c = too_short _ _ _ _ c.if-slots-first.true

pub loop-i-init : goal.loop-i-init
loop-i-init g c = refl

pub returns-then-found-wanted : goal.returns-then-found-wanted
returns-then-found-wanted g c = let s = c.args in
    sym (c.loop-i.invariant ∙ other_slot g.T.Slot.read g.T.Slot.before c.index-slots-i.result s.slots.now s.first.now c.loop-i.i _ _ c.loop-i-test.true (c.word-found.ensures ∙ ap g.T.Slot.read c.index-slots-i.is) (c.wanted.ensures ∙ ap (get_or s.first.now c.loop-i.i) c.word_before.ensures) c.if-found-wanted.true)

pub loop-i-preserved : goal.loop-i-preserved
loop-i-preserved g c = let s = c.args in
    c.loop-i.invariant ∙ same_slot g.T.Slot.read g.T.Slot.before c.index-slots-i.result s.slots.now s.first.now c.loop-i.i _ _ c.loop-i-test.true (c.word-found.ensures ∙ ap g.T.Slot.read c.index-slots-i.is) (c.wanted.ensures ∙ ap (get_or s.first.now c.loop-i.i) c.word_before.ensures) c.if-found-wanted.false

pub returns : goal.returns
returns g c = sym (c.loop-i.invariant ∙ no_slot _ _ _ _ _ c.loop-i-test.false c.if-slots-first.false)
