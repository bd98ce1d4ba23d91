use Rattle.layout_files.proofs.Prelude.{◌≡◌, ◌+◌, ◌<◌, ◌^◌, ◌∙◌, [], ℕ, ap, length, Some, slice_get, sym, subst, arith, count_by, if◌then◌else◌, map-id, count_by-le-length, slice_get_within, Block, LaidBlock, laid_lines, text_of, FitsBlock, HasNumber, is_cluster, IsBare}
use Rattle.layout_files.proofs.Halfway.{begun, done_is, each, last, next, not_done, nothing}
use Rattle.layout_files.proofs.ReadingNets.{block_some, blocks_texts, count_more, place_found, same_found}
use Rattle.layout_files.proofs.net_lines.read_blocks.Goals as goal

pub loop-blocks-init : goal.loop-blocks-init
loop-blocks-init c = λ circuit arch blocks same size names fits bare numbered few places e. (
  begun (λ k laid. text_of (laid_lines circuit arch laid)) (λ (laid : LaidBlock). laid) blocks [] c.new-blocks.result.items c.args.cursor.now c.new-blocks.ensures.items (e ∙ ap Some (blocks_texts circuit arch blocks)),
  sym (ap (count_by (λ (laid : LaidBlock). is_cluster laid.block)) c.new-blocks.ensures.items),
)

pub returns-in-None : goal.returns-in-None
returns-in-None c = λ circuit arch blocks same size names fits bare numbered few places e.
    let left = c.loop-blocks.cursor in
    let inv = c.loop-blocks.invariant circuit arch blocks same size names fits bare numbered few places e in
    let n = next (λ k laid. text_of (laid_lines circuit arch laid)) (λ (laid : LaidBlock). laid) blocks [] c.loop-blocks.blocks.items left inv.0 (not_done left (sym c.has_more.ensures ∙ c.loop-blocks-test.true)) in
    let there = place_found blocks c.args.places.now _ n.element places n.at in
    absurd (let none = sym c.in-None.is ∙ c.place_at.ensures ∙ ap (slice_get c.args.places.now) (c.len.ensures ∙ c.loop-blocks.blocks.ok.0) ∙ there in cc)

pub loop-blocks-preserved : goal.loop-blocks-preserved
loop-blocks-preserved c = λ circuit arch blocks same size names fits bare numbered few places e.
    let left = c.loop-blocks.cursor in
    let inv = c.loop-blocks.invariant circuit arch blocks same size names fits bare numbered few places e in
    let done = c.loop-blocks.blocks.items in
    let count = count_by (λ (laid : LaidBlock). is_cluster laid.block) in
    let n = next (λ k laid. text_of (laid_lines circuit arch laid)) (λ (laid : LaidBlock). laid) blocks [] done left inv.0 (not_done left (sym c.has_more.ensures ∙ c.loop-blocks-test.true)) in
    let there = place_found blocks c.args.places.now (length done) n.element places n.at in
    let place : n.element.place ≡ c.in-Some.place = same_found _ _ (sym there ∙ ap (slice_get c.args.places.now) (sym (c.len.ensures ∙ c.loop-blocks.blocks.ok.0)) ∙ sym c.place_at.ensures ∙ c.in-Some.is) in
    let number : HasNumber c.loop-blocks.clusters n.element.block = subst (λ k. HasNumber k n.element.block) (ap count (done_is (λ k laid. text_of (laid_lines circuit arch laid)) blocks [] done left inv.0) ∙ sym inv.1) (numbered (length done) n.element n.at) in
    let read = c.in_ok-laid.ensures.read circuit arch n.element n.rest same size names (each (FitsBlock (length circuit.nets) arch.lut_size) blocks _ n.element fits n.at) (each IsBare blocks _ n.element bare n.at) place number n.text in
    let within = slice_get_within blocks (length done) n.element n.at in
    let small : c.loop-blocks.clusters + 1 < 2 ^ 32 = omega (arith, inv.1, within, few, count_by-le-length (λ (laid : LaidBlock). is_cluster laid.block) done) in (
      n.then c.push.new.self.items c.read_block.new.cursor _ c.in_ok-push.ensures.items read.1 read.0,
      c.clusters_after-clusters.ensures small ∙ ap (λ (block : Block). if is_cluster block then c.loop-blocks.clusters + 1 else c.loop-blocks.clusters) c.block.ensures ∙ ap (λ (k : ℕ). if is_cluster c.in_ok-laid.laid.block then k + 1 else k) inv.1 ∙ sym (count_more (λ (laid : LaidBlock). is_cluster laid.block) done c.push.new.self.items _ c.in_ok-push.ensures.items),
    )

pub returns : goal.returns
returns c = λ circuit arch blocks same size names fits bare numbered few places e.
    let left = c.loop-blocks.cursor in
    let inv = c.loop-blocks.invariant circuit arch blocks same size names fits bare numbered few places e in
    let done = last (λ k laid. text_of (laid_lines circuit arch laid)) (λ (laid : LaidBlock). laid) blocks [] c.loop-blocks.blocks.items left inv.0
    (λ k laid rest t. nothing left (text_of (laid_lines circuit arch laid)) rest (sym c.has_more.ensures ∙ c.loop-blocks-test.false) (block_some circuit arch laid) t) in
    (done.0 ∙ map-id blocks, done.1)
