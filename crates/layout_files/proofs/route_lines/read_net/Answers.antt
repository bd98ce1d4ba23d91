use Rattle.layout_files.proofs.Prelude.{◌++◌, ◌∷◌, ◌∙◌, ap, Some, sym, is_listed, net_rest}
use Rattle.layout_files.proofs.ReadingRoutes.{net_read, rest_listed, rest_paths, same_net}
use Rattle.layout_files.proofs.route_lines.read_net.Goals as goal

pub returns-then-heading-clause-read : goal.returns-then-heading-clause-read
returns-then-heading-clause-read c = λ circuit strip layout between after same names places fits whole e.
    let rest = net_rest circuit strip layout between between.listed ++ (10 ∷ after) in
    let heading = c.read_heading-heading.ensures.read circuit between.net (is_listed between.listed) rest same names fits.net (e ∙ ap Some (net_read circuit strip layout c.args.number between between.listed after)) in
    let listed = rest_listed circuit strip layout between between.listed (sym heading.1 ∙ c.if-heading.true) in
    let read = c.in_ok-listed.ensures.read circuit layout between.listed after names places fits.listed (heading.2 ∙ ap (λ t. Some (t ++ (10 ∷ after))) listed.0) in
    (c.new-then-heading.ensures ∙ same_net between c.read_heading-heading.result.net _ _ heading.0 read.0 (c.new.ensures.items ∙ sym (whole.either listed.1)), read.1)

pub returns-clause-read : goal.returns-clause-read
returns-clause-read c = λ circuit strip layout between after same names places fits whole e.
    let rest = net_rest circuit strip layout between between.listed ++ (10 ∷ after) in
    let heading = c.read_heading-heading.ensures.read circuit between.net (is_listed between.listed) rest same names fits.net (e ∙ ap Some (net_read circuit strip layout c.args.number between between.listed after)) in
    let paths = rest_paths circuit strip layout between between.listed (sym heading.1 ∙ c.if-heading.false) in
    let read = c.in_ok-paths.ensures.read strip.rows between.paths after fits.nodes whole.ends (heading.2 ∙ ap (λ t. Some (t ++ (10 ∷ after))) paths.0) in
    (c.new-3.ensures ∙ same_net between c.read_heading-heading.result.net _ _ heading.0 (c.new-2.ensures.items ∙ paths.1) read.0, read.1)
