use Rattle.live_log.proofs.Prelude.{◌++◌, map, ap, ◌∙◌, flat_map, writes_same, writes_then, physical_lines, texts, with_feed, lines_kept, last_line}
use Rattle.live_log.proofs.WritingSteps.{both_written}
use Rattle.live_log.proofs.short_log.ShortLog.write.Goals as goal

pub returns : goal.returns
returns g c =
    let kept = lines_kept c.args.self.now.kept.items (physical_lines c.args.self.now.log.now) in
    writes_same g.W.Sink.contents g.W.Sink.has_failed c.args.sink.now c.write_last.new.sink _ _ c.write_last.result
    (both_written kept (map last_line (texts c.as_slice.result.now)) ∙ ap (λ tags. flat_map with_feed (kept ++ map last_line (texts tags))) c.as_slice.ensures.value)
    (writes_then c.in_ok-write_kept.ensures c.write_last.new.sink _ c.write_last.result c.write_last.ensures)
