use Rattle.live_threads.proofs.Prelude.{Option, sym, subst, ap, ◌∙◌, option_map, received, ServesOpened, Devices, RunsOpened, RunsService, empty_on, view_of, TakesLines}
use Rattle.live_threads.proofs.EndLemmas.{runs_input}
use Rattle.live_threads.proofs.running.run_in.Goals as goal

pub spawn_with-requires-clause-keeps : goal.spawn_with-requires-clause-keeps
spawn_with-requires-clause-keeps g c = λ κs bounds r post. let q = c.of-promise.ensures in rw (q.opened, q.lines, q.graph) post

pub returns-in-Ok : goal.returns-in-Ok
returns-in-Ok g c =
    let q = c.of-promise.ensures in
    let view = view_of g.W.Sink.contents g.W.Sink.has_failed g.L.Log.kept g.L.Log.has_failed in
    let J : ServesOpened _ _ _ → Type 0 = λ s. TakesLines s.lines.value c.join.result.lines (λ heard. RunsService s.opened.value.told (option_map g.P.Source.remaining s.opened.value.past) (empty_on s.opened.value.service s.graph.value) (view s.opened.value.devices) heard (view c.join.result.devices) c.join.result.outcome) in
    let takes = subst J c.in-Ok.ensures.ok c.join.ensures in
    let D : Option (Devices _ _) → Type 0 = λ d. RunsOpened c.args.opened.told (option_map g.P.Source.remaining c.args.opened.past) (empty_on c.args.opened.service c.args.site.graph.now) (view c.args.opened.devices) (g.S.Source.remaining c.args.input.reader) (option_map view d) c.end_of.result.outcome in
    subst D (sym c.end_of.ensures.devices)
    (rw (sym q.opened, sym q.graph) (runs_input _ _ _ _ _ _ _ _ _ _ _ _ _ c.requires.sent (ap received q.lines ∙ c.requires.received) c.read_lines-read.ensures takes c.end_of.ensures.taken c.end_of.ensures.done c.end_of.ensures.other))
