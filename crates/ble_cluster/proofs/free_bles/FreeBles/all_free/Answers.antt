use Rattle.ble_cluster.proofs.Prelude.{◌≡◌, ◌∙◌, false, length, replicate, ap, refl, subst, sym, length-replicate, All-nil, IsFirstFree, IsLowest, free_in}
use Rattle.ble_cluster.proofs.Choosing.{free_at_first}
use Rattle.ble_cluster.proofs.SeedLemmas.{seed_is}
use Rattle.ble_cluster.proofs.free_bles.FreeBles.all_free.Goals as goal

pub lowest_free-seed-requires : goal.lowest_free-seed-requires
lowest_free-seed-requires c =
    let marks : length c.in-Ok.taken.items ≡ length c.args.elements.elements = ap length c.in-Ok.ensures.marks ∙ length-replicate _ false ∙ c.len.ensures.count in
    subst (λ ts. IsFirstFree ts c.args.by_lack) (sym c.as_slice.ensures.value) (c.requires.by_lack c.in-Ok.taken.items marks)

pub returns-in-Ok : goal.returns-in-Ok
returns-in-Ok c =
    let free = ap free_in (c.in-Ok.ensures.marks ∙ ap (λ n. replicate n false) c.len.ensures.count) ∙ free_at_first _ in
    rw (free, c.in-Ok.ensures.members) refl

pub invariant_of-result : goal.invariant_of-result
invariant_of-result c =
    let elements = c.args.elements.elements in
    let taken = c.in-Ok.taken.items in
    let marks : length taken ≡ length elements = ap length c.in-Ok.ensures.marks ∙ length-replicate _ false ∙ c.len.ensures.count in
    let room = c.in-Ok.ensures.room in
    let lawful = subst (λ ts. IsFirstFree ts c.lowest_free-seed.new.self) c.as_slice.ensures.value c.lowest_free-seed.ensures.lawful in
    let lowest = subst (λ ts. IsLowest ts c.args.by_lack.keys.items c.lowest_free-seed.result) c.as_slice.ensures.value c.lowest_free-seed.ensures.first in (
      record {
        marks = marks;
        few = c.len.ensures.all.count;
        members = rw c.in-Ok.ensures.members (All-nil _);
        room = record { reads = room.0 ∙ c.nets.ensures; drives = room.1 ∙ c.nets.ensures; gains = room.2 ∙ c.len.ensures.count };
      },
      record {
        lacks = rw c.lowest_free-seed.ensures.keys c.requires.lacks;
        outside = c.requires.outside;
        by_lack_free = lawful;
        by_outside_free = c.requires.by_outside taken marks;
        first = seed_is elements taken _ _ c.requires.lacks marks lowest;
      },
    )
