-- `replay_calls::lend::differs` meets its contract. Assumes nothing.
use Rattle.replay_calls.proofs.Record.{edges_fit, record_edges, replayed}
use Rattle.replay_calls.proofs.lend.differs.Goals as goal

pub returns-then-longer : goal.returns-then-longer
returns-then-longer c =
    let words = c.args.words.now in
    let fits = c.fits.ensures in
    let yes = c.if-not-fits.false in
    replayed _ words _ _ 32769 c.find_parts.ensures fits yes (record_edges words _ _ fits yes) c.among.ensures

pub returns : goal.returns
returns c =
    let words = c.args.words.now in
    let few = edges_fit words 160 _ c.longer.ensures c.if-longer.false in
    replayed _ words _ _ 160 c.find_parts.ensures c.fits.ensures c.if-not-fits.false few c.among-2.ensures
