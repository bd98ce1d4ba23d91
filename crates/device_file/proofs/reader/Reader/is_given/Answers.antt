use Rattle.device_file.proofs.Prelude.{sym, ◌∙◌, rules, tests, bytes_eq, YieldsList-from_slice, any_from_yields_List, given_of}
use Rattle.device_file.proofs.Steps.{any-map}
use Rattle.device_file.proofs.reader.Reader.is_given.Goals as goal

pub returns : goal.returns
returns c =
    any_from_yields_List (λ value. bytes_eq value.name.now c.args.name.now) _ _ c.any.result c.any.ensures.ran (YieldsList-from_slice c.args.self.now.values.items (c.iter.ensures.rest ∙ c.deref.ensures.value)) (λ x b q k. search (rules, tests))
    ∙ sym (any-map (λ value. bytes_eq value.name c.args.name.now) given_of c.args.self.now.values.items)
