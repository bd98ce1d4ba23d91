use Rattle.layout_files.proofs.Prelude.{◌≡◌, ◌∙◌, All, refl, ◌≢◌, false, codes, subst, sym, arith, true≢false, bytes_eq, take_all, All-more, get_or_from_slice_get, slice_get_within, bytes_eq-Decides}
use Rattle.layout_files.proofs.form.none_is_open.Goals as goal

pub loop-net-preserved : goal.loop-net-preserved
loop-net-preserved c =
    let name = c.name.result.now in
    let differs : bytes_eq name (codes "open") ≡ false = sym c.is_word.ensures ∙ c.if-is_word.false in
    let other : name ≢ codes "open" = λ e. true≢false (sym ((bytes_eq-Decides name (codes "open")).1 e) ∙ differs) in
    All-more (λ name. name ≢ codes "open") c.args.names.now c.loop-net.net name (let t = c.loop-net-test.true in omega (arith, t, c.len-net-end.ensures)) c.loop-net.invariant
    (λ e. other (sym (get_or_from_slice_get c.args.names.now c.loop-net.net name name c.name.ensures) ∙ e))

pub returns : goal.returns
returns c = (λ t. subst (λ names. All (λ name. name ≢ codes "open") names) (take_all c.loop-net.net c.args.names.now (let f = c.loop-net-test.false in omega (arith, f, c.len-net-end.ensures))) c.loop-net.invariant, λ all. refl)

pub returns-then-is_word : goal.returns-then-is_word
returns-then-is_word c =
    let name = c.name.result.now in
    let same : name ≡ codes "open" = (bytes_eq-Decides name (codes "open")).0 (sym c.is_word.ensures ∙ c.if-is_word.true) in
    (λ t. absurd (true≢false (sym t)), λ all. absurd (all c.loop-net.net name (slice_get_within c.args.names.now c.loop-net.net name c.name.ensures) (get_or_from_slice_get c.args.names.now c.loop-net.net name name c.name.ensures ∙ same)))
