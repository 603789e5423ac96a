-- `placed_in`: no more points than places. Assumes nothing.
use Rattle.std.proofs.Common.{rules}
use Rattle.placing.proofs.NamedPlaced.{count_fits}
use Rattle.placing.proofs.named.placed_in.Goals as goal

pub slice_bounds-points-end : goal.slice_bounds-points-end
slice_bounds-points-end c =
    let a = c.args in
    let h = count_fits a.window a.names.primary a.names.mask a.area_mode _ c.listed_points-count.ensures in
    search (rules, h)

pub slice_bounds-index_of-end : goal.slice_bounds-index_of-end
slice_bounds-index_of-end c =
    let a = c.args in
    let h = count_fits a.window a.names.primary a.names.mask a.area_mode _ c.listed_points-count.ensures in
    search (rules, h)
