-- `starts::add_start` meets its contract: search, accumulation and taking back, one after the other. Assumes nothing.
use Rattle.std.proofs.lemmas.Result.{err_from_is_err_and}
use Rattle.starts.proofs.Adding.{start_paths, start_accumulate, start_release, start_done}
use Rattle.starts.proofs.add_start.Goals as goal

pub returns-in_err-found : goal.returns-in_err-found
returns-in_err-found c =
    let e = c.tracks_of-tracks.ensures in
    let p = err_from_is_err_and c.from_residual.result c.from_residual.ensures.1 in
    rw p.1 (start_paths c.requires (rw e at c.in_err-found.ensures) p.0)

pub accumulate-requires : goal.accumulate-requires
accumulate-requires c = let e = c.tracks_of-tracks.ensures in rw e (start_accumulate c.requires (rw e at c.in_ok-found.ensures))

pub release-requires : goal.release-requires
release-requires c = let e = c.tracks_of-tracks.ensures in rw e (start_release c.requires (rw e at c.in_ok-found.ensures) _ (rw e at c.accumulate.ensures) (rw e at c.forget.ensures))

pub returns : goal.returns
returns c =
    let e = c.tracks_of-tracks.ensures in
    start_done c.requires (rw e at c.in_ok-found.ensures) _ (rw e at c.accumulate.ensures) (rw e at c.forget.ensures) (rw e at c.release.ensures)
