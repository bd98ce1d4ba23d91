use Rattle.script_text.proofs.Prelude.{◌≡◌, ◌≤◌, ◌<◌, ◌++◌, ◌∷◌, [], ◌∙◌, ℕ, List, get_or, length, sym, ap, rules, arith, Bor, set, get_or_default, SessionInput, number_of, with_name, names_in, with_feed}
use Rattle.script_text.proofs.InputLemmas.{length-names, names_in-set, on_ok, on_ok_any, with_input-push, with_input-set, with_name-found}
use Rattle.script_text.proofs.inputs.Sessions.add.Goals as goal

pub returns-then-number-len-clause-said : goal.returns-then-number-len-clause-said
returns-then-number-len-clause-said c =
    let xs = c.args.self.now.said.items in
    let k = c.in_ok-number.number in
    let v = c.append.new.said in
    let name = c.args.name.now in
    let at : k ≡ number_of (names_in xs) name = c.in_ok-number.ensures.number ∙ ap (λ ns. number_of ns name) c.requires in
    let within : k < length xs = search rules in
    let same : c.index_mut.result.now ≡ get_or xs k v = c.index_mut.ensures.value ∙ get_or_default xs k _ v within in
    on_ok c.append.result
    (λ more. with_input-set xs name (with_feed c.args.line.now) k v at within
    (ap (λ (b : Bor (List ℕ)). b.now) c.append.ensures.name ∙ ap (λ (s : SessionInput). s.name.now) same)
    (more ∙ ap (λ (s : SessionInput). s.input.items ++ with_feed c.args.line.now) same))
    c.append.ensures.input

pub returns-then-number-len-clause-named : goal.returns-then-number-len-clause-named
returns-then-number-len-clause-named c =
    let xs = c.args.self.now.said.items in
    let k = c.in_ok-number.number in
    let v = c.append.new.said in
    let name = c.args.name.now in
    let at : k ≡ number_of (names_in xs) name = c.in_ok-number.ensures.number ∙ ap (λ ns. number_of ns name) c.requires in
    let within : k < length xs = search rules in
    let same : c.index_mut.result.now ≡ get_or xs k v = c.index_mut.ensures.value ∙ get_or_default xs k _ v within in
    let there : c.add_numbered.new.self ≡ names_in (set xs k v) =
    c.in_ok-number.ensures.names ∙ ap (λ ns. with_name ns name) c.requires
    ∙ with_name-found (names_in xs) name (let l = length-names xs in omega (arith, at, within, l))
    ∙ sym (names_in-set xs k v within (ap (λ (b : Bor (List ℕ)). b.now) c.append.ensures.name ∙ ap (λ (s : SessionInput). s.name.now) same)) in
    on_ok_any c.append.result there

pub returns-clause-said : goal.returns-clause-said
returns-clause-said c =
    let xs = c.args.self.now.said.items in
    let k = c.in_ok-number.number in
    let v = c.append-2.new.said in
    let name = c.args.name.now in
    let at : k ≡ number_of (names_in xs) name = c.in_ok-number.ensures.number ∙ ap (λ ns. number_of ns name) c.requires in
    let past : length xs ≤ k = search rules in
    let pushed : c.push.new.self.items ≡ xs ++ v ∷ [] = search rules in
    rw pushed (with_input-push xs name (with_feed c.args.line.now) v (omega (arith, at, past)) (ap (λ (b : Bor (List ℕ)). b.now) c.append-2.ensures.name)
    (c.in_ok-append.ensures.input ∙ ap (λ t. t ++ with_feed c.args.line.now) c.new.ensures.items))
