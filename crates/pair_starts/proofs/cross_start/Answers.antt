-- `pair_starts::cross_start` meets its contract: search with pairs, accumulation and taking back, one after the other. Assumes nothing.
use Rattle.std.proofs.lemmas.Result.{err_from_is_err_and}
use Rattle.pair_starts.proofs.Totalling.{cross_search, cross_paths, cross_accumulate, cross_forget, cross_release, cross_done}
use Rattle.pair_starts.proofs.cross_start.Goals as goal

pub search_from-requires : goal.search_from-requires
search_from-requires c = cross_search c.requires c.paired_tracks-paired.ensures

pub returns-in_err-found : goal.returns-in_err-found
returns-in_err-found c = let p = err_from_is_err_and c.from_residual.result c.from_residual.ensures.1 in rw p.1 (cross_paths c.requires c.paired_tracks-paired.ensures c.in_err-found.ensures p.0)

pub accumulate-requires : goal.accumulate-requires
accumulate-requires c = cross_accumulate c.requires c.paired_tracks-paired.ensures c.in_ok-found.ensures

pub forget-requires : goal.forget-requires
forget-requires c = cross_forget c.requires c.paired_tracks-paired.ensures c.in_ok-found.ensures

pub release-requires : goal.release-requires
release-requires c = cross_release c.requires c.paired_tracks-paired.ensures c.in_ok-found.ensures _ c.accumulate.ensures c.forget.ensures

pub returns : goal.returns
returns c = cross_done c.requires c.paired_tracks-paired.ensures c.in_ok-found.ensures _ c.accumulate.ensures c.forget.ensures c.release.ensures
