use Rattle.vpr_files.proofs.Prelude.{◌≡◌, ◌∙◌, ◌≤◌, ℕ, Bool, ◌||◌, List, [], ◌∷◌, ◌++◌, length, take, ◌+◌, sym, ap, arith, append-nil, take_all, flat_map, list_any, BlockNet, block_nets, net_name, line_of, all_found, all_loop, all_loop_end, all_none, all_same, part_first, part_loop, part_same, writes_part, writes_same, writes_then}
use Rattle.vpr_files.proofs.ClusterLemmas.{by_circuit}
use Rattle.vpr_files.proofs.Globals.{global_line, global_line_text, global_text, globals_text, some_false, some_more, some_true, told}
use Rattle.vpr_files.proofs.net_file.write_globals.Goals as goal
use Rattle.vpr_files.proofs.net_file.write_globals.Goals.{then-net+in_ok-write_slices, else-net}

-- a net, from its parts
abbrev net_value : ℕ → ℕ → List ℕ → Bool → BlockNet
net_value net driver readers global = record { net = net; driver = driver; readers = readers; global = global }

pub returns-in_err-write_slices : goal.returns-in_err-write_slices
returns-in_err-write_slices g c =
    let packed = c.args.packed.now in
    let nets = block_nets packed in
    let net = net_value c.net-net.result.net c.net-net.result.driver c.net-net.result.readers.now c.net-net.result.global in
    writes_part c.from_residual.result c.from_residual.ensures.0
    (part_same
    (part_first (told (list_any (λ (one : BlockNet). one.global) nets) (10 ∷ []))
    (part_loop (global_text packed.circuit) nets c.loop-number.number net c.net-net.ensures c.loop-number.invariant.0
    (part_same c.in_err-write_slices.ensures
    (global_line_text packed.circuit c.net_name.result.now net (by_circuit (λ circuit. net_name circuit net.net) c.net_name.result.now c.circuit.result.now c.args.packed.now.circuit c.net_name.ensures c.circuit.ensures.value)
    ∙ ap (λ b. told b (line_of (global_line packed.circuit net))) (sym c.if-net.true)))))
    (globals_text packed))

pub loop-number-preserved : goal.loop-number-preserved
loop-number-preserved g c =
    let packed = c.args.packed.now in
    let nets = block_nets packed in
    let number = c.loop-number.number in
    let net = net_value c.net-net.result.net c.net-net.result.driver c.net-net.result.readers.now c.net-net.result.global in
    let some = list_any (λ (one : BlockNet). one.global) (take number nets) in
    let more : (some || net.global) ≡ list_any (λ (one : BlockNet). one.global) (take (number + 1) nets) = some_more nets number net c.net-net.ensures in
    elim c.if-net.branch [
      | then-net+in_ok-write_slices w ↦ (
        all_found
            (all_loop (global_text packed.circuit) nets number net c.net-net.ensures c.loop-number.invariant.0
            (all_same w.in_ok-write_slices.ensures
            (global_line_text packed.circuit w.net_name.result.now net (by_circuit (λ circuit. net_name circuit net.net) w.net_name.result.now w.circuit.result.now c.args.packed.now.circuit w.net_name.ensures w.circuit.ensures.value)
            ∙ ap (λ b. told b (line_of (global_line packed.circuit net))) (sym w.if-net.true))))
            w.sink-is,
        w.some-is ∙ some_true some net.global w.if-net.true ∙ more,
      )
      | else-net w ↦ (
        all_found
            (all_loop (global_text packed.circuit) nets number net c.net-net.ensures c.loop-number.invariant.0
            (all_same (all_none g.W.Sink.contents g.W.Sink.has_failed c.loop-number.sink)
            (ap (λ b. told b (line_of (global_line packed.circuit net))) (sym w.if-net.false))))
            w.sink-is,
        w.some-is ∙ c.loop-number.invariant.1 ∙ some_false some net.global w.if-net.false ∙ more,
      )
    ]

-- all nets were examined
all_taken : (nets : List BlockNet) (number : ℕ) (some : Bool) → length nets ≤ number → some ≡ list_any (λ one. one.global) (take number nets) → some ≡ list_any (λ one. one.global) nets
all_taken nets number some long e = e ∙ ap (list_any (λ (one : BlockNet). one.global)) (take_all number nets long)

pub returns-then-some : goal.returns-then-some
returns-then-some g c =
    let packed = c.args.packed.now in
    let nets = block_nets packed in
    let long : length nets ≤ c.loop-number.number = (let h = c.loop-number-test.false in let e = c.net_count-number-end.ensures in omega (arith, h, e)) in
    writes_same g.W.Sink.contents g.W.Sink.has_failed _ _ (flat_map (global_text packed.circuit) nets ++ 10 ∷ []) _ c.end_line.result
    (ap (λ b. flat_map (global_text packed.circuit) nets ++ told b (10 ∷ [])) (sym c.if-some.true ∙ all_taken nets c.loop-number.number c.loop-number.some long c.loop-number.invariant.1) ∙ globals_text packed)
    (writes_then (all_loop_end (global_text packed.circuit) nets c.loop-number.number long c.loop-number.invariant.0) c.end_line.new.sink (10 ∷ []) c.end_line.result c.end_line.ensures)

pub returns-else-some : goal.returns-else-some
returns-else-some g c =
    let packed = c.args.packed.now in
    let nets = block_nets packed in
    let long : length nets ≤ c.loop-number.number = (let h = c.loop-number-test.false in let e = c.net_count-number-end.ensures in omega (arith, h, e)) in
    all_same (all_loop_end (global_text packed.circuit) nets c.loop-number.number long c.loop-number.invariant.0)
    (sym (append-nil (flat_map (global_text packed.circuit) nets))
    ∙ ap (λ b. flat_map (global_text packed.circuit) nets ++ told b (10 ∷ [])) (sym c.if-some.false ∙ all_taken nets c.loop-number.number c.loop-number.some long c.loop-number.invariant.1) ∙ globals_text packed)
