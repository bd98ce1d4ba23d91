use Rattle.device_lines.proofs.Prelude.{◌∙◌, ap, sym, [], ◌∷◌, map, map-append, listed_of, are_parted, seen_of}
use Rattle.device_lines.proofs.ListLemmas.{all_mapped}
use Rattle.device_lines.proofs.StepLemmas.{is_listed, is_refused}
use Rattle.device_lines.proofs.reader.Reader.tenancy.Goals as goal

pub returns-then-not-is_parted : goal.returns-then-not-is_parted
returns-then-not-is_parted c =
    let one = listed_of c.in-Some.tenancy in
    let items = c.begin.new.self.device.tenancies.items in
    is_refused (seen_of c.args.self.now) (seen_of c.begin.new.self) one _ c.in-Some.ensures c.begin.ensures
    (sym c.if-not-is_parted.true ∙ c.is_parted.ensures ∙ sym (all_mapped (λ other. are_parted other one) listed_of items))

pub returns-in-Ok : goal.returns-in-Ok
returns-in-Ok c =
    let one = listed_of c.in-Some.tenancy in
    let items = c.begin.new.self.device.tenancies.items in
    is_listed (seen_of c.args.self.now) (seen_of c.begin.new.self) one _ _ c.in-Some.ensures c.begin.ensures
    (sym c.if-not-is_parted.false ∙ c.is_parted.ensures ∙ sym (all_mapped (λ other. are_parted other one) listed_of items))
    (sym (map-append listed_of items (c.in-Some.tenancy ∷ [])) ∙ ap (map listed_of) (sym c.in-Ok.ensures.items))
