use Rattle.strip_place.proofs.Prelude.{◌≡◌, ◌≢◌, ◌∙◌, length, slice_get, arith, ap, subst, sym, AllPairs, PackedCircuit, blocks_of, keys_of, entries_of, ArePlaced, places_by_block}
use Rattle.strip_place.proofs.Keeping.{gathered, gathered_all, kept_exact, kept_lawfully, keys_distinct}
use Rattle.strip_place.proofs.placing.Placing.to_kept_places.Goals as goal

pub loop-block-preserved : goal.loop-block-preserved
loop-block-preserved c =
    ap entries_of c.in_ok-push.ensures.items
    ∙ gathered c.args.self.now.packed (places_by_block c.args.self.now) c.loop-block.block c.loop-block.entries.items (record { key = c.key.result; place = c.place_of.result }) c.loop-block.invariant
    (ap (λ (p : PackedCircuit). slice_get (keys_of p) c.loop-block.block) (sym c.packed-packed.ensures) ∙ c.key.ensures) c.place_of.ensures

pub of-requires : goal.of-requires
of-requires c =
    let packed = c.args.self.now.packed in
    let places = places_by_block c.args.self.now in
    let placed : ArePlaced c.args.self.now.strip packed places = record { long = c.laws.ensures.long; by_kind = c.laws.ensures.by_kind; one_to_one = c.laws.ensures.one_to_one } in
    let count : c.block_count-block-end.result ≡ length (blocks_of packed) = c.block_count-block-end.ensures ∙ ap (λ (p : PackedCircuit). length (blocks_of p)) c.packed-packed.ensures in
    let all = gathered_all packed places c.loop-block.block c.loop-block.entries.items (omega (arith, count, c.loop-block-test.false)) c.loop-block.invariant in
    let apart = subst (λ (p : PackedCircuit). AllPairs (λ key other. key ≢ other) (keys_of p)) c.packed-packed.ensures (c.laws_of_packing.ensures c.packed-packed.result.now c.circuit.ensures.lawful).keys in
    keys_distinct c.args.self.now.strip packed places c.loop-block.entries.items placed apart all

pub returns-clause-exact : goal.returns-clause-exact
returns-clause-exact c =
    let packed = c.args.self.now.packed in
    let places = places_by_block c.args.self.now in
    let count : c.block_count-block-end.result ≡ length (blocks_of packed) = c.block_count-block-end.ensures ∙ ap (λ (p : PackedCircuit). length (blocks_of p)) c.packed-packed.ensures in
    let all = gathered_all packed places c.loop-block.block c.loop-block.entries.items (omega (arith, count, c.loop-block-test.false)) c.loop-block.invariant in
    kept_exact packed places c.loop-block.entries.items c.of.result all c.of.ensures

pub returns-clause-lawful : goal.returns-clause-lawful
returns-clause-lawful c =
    let packed = c.args.self.now.packed in
    let places = places_by_block c.args.self.now in
    let placed : ArePlaced c.args.self.now.strip packed places = record { long = c.laws.ensures.long; by_kind = c.laws.ensures.by_kind; one_to_one = c.laws.ensures.one_to_one } in
    let count : c.block_count-block-end.result ≡ length (blocks_of packed) = c.block_count-block-end.ensures ∙ ap (λ (p : PackedCircuit). length (blocks_of p)) c.packed-packed.ensures in
    let all = gathered_all packed places c.loop-block.block c.loop-block.entries.items (omega (arith, count, c.loop-block-test.false)) c.loop-block.invariant in
    kept_lawfully c.args.self.now.strip packed places c.of.result placed (kept_exact packed places c.loop-block.entries.items c.of.result all c.of.ensures)
