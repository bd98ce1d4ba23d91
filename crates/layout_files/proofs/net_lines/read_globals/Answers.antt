use Rattle.layout_files.proofs.Prelude.{◌≡◌, ◌<◌, ◌==◌, ◌++◌, ◌∷◌, ◌∙◌, [], ℕ, ap, codes, length, Some, sym, eqb-true, eq-eqb, true≢false, map-id, net_name, line_of, left_after}
use Rattle.layout_files.proofs.Halfway.{begun, each, last, next}
use Rattle.layout_files.proofs.Printing.{is_here, not_here, takes_false, takes_true}
use Rattle.layout_files.proofs.ReadingNets.{global_read, globals_done, globals_end, globals_more, globals_stop, globals_texts}
use Rattle.layout_files.proofs.net_lines.read_globals.Goals as goal

pub loop-cursor-init : goal.loop-cursor-init
loop-cursor-init c = λ circuit globals after same names within other e.
    begun (λ k net. line_of (codes ".global" ∷ net_name circuit net ∷ [])) (λ (net : ℕ). net) globals (globals_end globals after) c.new-globals.result.items c.args.cursor.now c.new-globals.ensures.items (e ∙ ap Some (globals_texts circuit globals after))

pub loop-cursor-preserved : goal.loop-cursor-preserved
loop-cursor-preserved c = λ circuit globals after same names within other e.
    let left = c.loop-cursor.cursor in
    let inv = c.loop-cursor.invariant circuit globals after same names within other e in
    let n = next (λ k net. line_of (codes ".global" ∷ net_name circuit net ∷ [])) (λ (net : ℕ). net) globals (globals_end globals after) c.loop-cursor.globals.items left inv (not_here left (codes ".global ") (globals_end globals after) c.takes.result c.loop-cursor-test.true c.takes.ensures.whether (globals_stop globals after other)) in
    let here = takes_true left c.takes.new.self (codes ".global ") c.takes.result c.loop-cursor-test.true c.takes.ensures.left ∙ ap (λ v. left_after v (codes ".global ")) (n.text ∙ ap Some (global_read circuit n.element n.rest)) in
    let read = c.read_global-net.ensures.read circuit n.element n.rest same names (each (λ net. net < length circuit.nets) globals _ n.element within n.at) here in
    n.then c.push.new.self.items c.read_global-net.new.cursor c.read_global-net.result c.in_ok-push.ensures.items read.1 read.0

pub returns-then-is_empty : goal.returns-then-is_empty
returns-then-is_empty c = λ circuit globals after same names within other e.
    let left = c.loop-cursor.cursor in
    let done = last (λ k net. line_of (codes ".global" ∷ net_name circuit net ∷ [])) (λ (net : ℕ). net) globals (globals_end globals after) c.loop-cursor.globals.items left (c.loop-cursor.invariant circuit globals after same names within other e)
    (λ k net rest t. is_here left (codes ".global ") (net_name circuit net ++ (10 ∷ rest)) c.takes.result c.loop-cursor-test.false c.takes.ensures.whether (t ∙ ap Some (global_read circuit net rest))) in
    let here = takes_false left c.takes.new.self (codes ".global ") c.takes.result c.loop-cursor-test.false c.takes.ensures.left ∙ done.1 in
    let all = done.0 ∙ map-id globals in
    (all, globals_done c.loop-cursor.globals.items globals after c.takes.new.self all (eqb-true (length c.loop-cursor.globals.items) 0 (ap (λ n. n == 0) (sym c.loop-cursor.globals.ok.0) ∙ sym c.is_empty.ensures ∙ c.if-is_empty.true)) here)

pub returns : goal.returns
returns c = λ circuit globals after same names within other e.
    let left = c.loop-cursor.cursor in
    let done = last (λ k net. line_of (codes ".global" ∷ net_name circuit net ∷ [])) (λ (net : ℕ). net) globals (globals_end globals after) c.loop-cursor.globals.items left (c.loop-cursor.invariant circuit globals after same names within other e)
    (λ k net rest t. is_here left (codes ".global ") (net_name circuit net ++ (10 ∷ rest)) c.takes.result c.loop-cursor-test.false c.takes.ensures.whether (t ∙ ap Some (global_read circuit net rest))) in
    let here = takes_false left c.takes.new.self (codes ".global ") c.takes.result c.loop-cursor-test.false c.takes.ensures.left ∙ done.1 in
    let all = done.0 ∙ map-id globals in
    let some = λ (none : length c.loop-cursor.globals.items ≡ 0). true≢false (sym (eq-eqb (length c.loop-cursor.globals.items) 0 none) ∙ ap (λ n. n == 0) (sym c.loop-cursor.globals.ok.0) ∙ sym c.is_empty.ensures ∙ c.if-is_empty.false) in
    (all, c.text.ensures.left ∙ ap (λ v. left_after v (codes "\n")) (globals_more c.loop-cursor.globals.items globals after c.takes.new.self all some here))
