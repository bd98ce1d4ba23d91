use Rattle.fabric_planes.proofs.Prelude.{◌≡◌, ◌∙◌, ℕ, ◌+◌, ◌-◌, ◌*◌, ◌<◌, ◌≤◌, ap, drop, take, length, arith, slice_index, get_or-take, far_list}
use Rattle.fabric_planes.proofs.Lowered.{by_four}
use Rattle.fabric_planes.proofs.RivalLists.{each_set, lowered_set}
use Rattle.fabric_planes.proofs.SideRows.{part_at}
use Rattle.fabric_planes.proofs.bound_rows.FarWires.lower.Goals as goal

pub loop-track-preserved : goal.loop-track-preserved
loop-track-preserved c =
    let self = c.args.self.now in
    let lasts = self.lasts.now in
    let n = length self.costs.now in
    let track = c.loop-track.track in
    let bounds = c.loop-track.bounds in
    let new = c.min-in-loop-track.result in
    let within : track < length bounds = omega arith in
    let few : track < n = omega arith in
    let bound : ℕ → ℕ → ℕ = λ track side. slice_index lasts (side * n + track) + slice_index (far_list self.far) side + (slice_index self.costs.now track + (slice_index self.apart.now track + self.more)) in
    let at : (side k : ℕ) → k ≡ side * n → slice_index lasts (k + track) ≡ slice_index lasts (side * n + track) = λ side k e. ap (λ (k : ℕ). slice_index lasts (k + track)) e in
    let zero : track ≡ 0 * n + track = omega arith in
    let top : slice_index (take n lasts) track ≡ slice_index lasts (0 * n + track) = get_or-take n lasts track 0 few ∙ ap (slice_index lasts) zero in
    let bottom : slice_index (take (2 * n - n) (drop n lasts)) track ≡ slice_index lasts (1 * n + track) = part_at lasts n (2 * n) n track (omega arith) few ∙ at 1 n (omega arith) in
    let right : slice_index (take (3 * n - 2 * n) (drop (2 * n) lasts)) track ≡ slice_index lasts (2 * n + track) = part_at lasts (2 * n) (3 * n) n track (omega arith) few in
    let left : slice_index (take (4 * n - 3 * n) (drop (3 * n) lasts)) track ≡ slice_index lasts (3 * n + track) = part_at lasts (3 * n) (4 * n) n track (omega arith) few in
    let low : new ≤ c.min.result + slice_index self.costs.now track + slice_index self.apart.now track + self.more = omega (arith, c.min-in-loop-track.ensures) in
    let least = c.min.ensures in
    let level = c.min-level.ensures in
    let upright = c.min-upright.ensures in
    let here : (side : ℕ) → side < 4 → new ≤ bound track side =
    by_four (λ side. new ≤ bound track side)
    (omega (arith, top, low, least, level))
    (omega (arith, bottom, low, least, level))
    (omega (arith, right, low, least, upright))
    (omega (arith, left, low, least, upright)) in (
      lowered_set c.args.bounds.now bounds track new c.loop-track.invariant.0 within (omega (arith, c.min-in-loop-track.ensures)),
      each_set (λ track r. (side : ℕ) → side < 4 → r ≤ bound track side) bounds track new within c.loop-track.invariant.1 here,
    )
