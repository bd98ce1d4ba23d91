use Rattle.fpgad_run.proofs.Prelude.{◌≡◌, ◌<◌, ◌++◌, ◌∷◌, [], ◌∙◌, Some, length, slice_get, ap, sym, arith, rules, map, YieldsList-from_vec, YieldsList-end, YieldsList-turn, map-id, map_push, sink_text, SessionReplies, section_of, named_sections}
use Rattle.fpgad_run.proofs.SectionLemmas.{count_so_far, held_as, named_push, no_texts, section}
use Rattle.fpgad_run.proofs.sections.add_replies.Goals as goal

pub loop-text-init : goal.loop-text-init
loop-text-init c = ap (map section_of) c.requires.empty ∙ sym (no_texts c.args.names.now)

pub name-name-requires : goal.name-name-requires
name-name-requires c =
    let all = YieldsList-from_vec {s = c.into_iter-text-iterator.result} c.args.texts.items (search rules) (search rules) in
    let turn = YieldsList-turn all c.loop-text.yielded c.loop-text.text-iterator c.loop-text.yielded_by c.next.result c.next.new.self c.in-Some.text c.in-Some.is c.next.ensures.steps in
    let within : length c.loop-text.yielded < length c.args.names.now = omega (arith, turn.0, c.requires.even) in
    let count = count_so_far c.args.names.now c.loop-text.yielded c.loop-text.replies.items c.loop-text.invariant (omega (arith, within)) in
    let len : c.len.result ≡ length c.loop-text.replies.items = search rules in
    omega (arith, len, count, within)

pub loop-text-preserved : goal.loop-text-preserved
loop-text-preserved c =
    let names = c.args.names.now in
    let before = c.loop-text.yielded in
    let replies = c.loop-text.replies.items in
    let all = YieldsList-from_vec {s = c.into_iter-text-iterator.result} c.args.texts.items (search rules) (search rules) in
    let turn = YieldsList-turn all before c.loop-text.text-iterator c.loop-text.yielded_by c.next.result c.next.new.self c.in-Some.text c.in-Some.is c.next.ensures.steps in
    let within : length before < length names = omega (arith, turn.0, c.requires.even) in
    let count = count_so_far names before replies c.loop-text.invariant (omega (arith, within)) in
    let len : c.len.result ≡ length replies = search rules in
    let name = c.name-name.result.now in
    let at : slice_get names (length before) ≡ Some name = ap (slice_get names) (sym (len ∙ count)) ∙ c.name-name.ensures in
    let text : c.into_bytes.result.items ≡ sink_text c.in-Some.text = held_as c.in-Some.text c.into_bytes.result.items c.into_bytes.ensures in
    let one : SessionReplies = record { name = c.name-name.result; text = c.into_bytes.result } in
    let pushed : c.push.new.self.items ≡ replies ++ one ∷ [] = search rules in
    ap (map section_of) pushed ∙ (map_push section_of replies one ∙ (ap (λ ss. ss ++ section_of one ∷ []) c.loop-text.invariant
    ∙ (ap (λ t. named_sections names before ++ section name t ∷ []) text ∙ sym (named_push names before c.in-Some.text name within at))))

pub returns : goal.returns
returns c =
    let end = YieldsList-end (YieldsList-from_vec {s = c.into_iter-text-iterator.result} c.args.texts.items (search rules) (search rules)) c.loop-text.yielded c.loop-text.text-iterator c.loop-text.yielded_by c.next.result c.next.new.self c.in-None.is c.next.ensures.steps in
    let yielded : c.loop-text.yielded ≡ c.args.texts.items = sym (map-id c.loop-text.yielded) ∙ end.0 in
    c.loop-text.invariant ∙ ap (named_sections c.args.names.now) yielded
