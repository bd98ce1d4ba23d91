use Rattle.layout_files.proofs.Prelude.{◌∙◌, None, Some, cond, ap, sym, is_some, Decides-eqb, strip_prefix_is}
use Rattle.layout_files.proofs.Printing.{in_None, in_Some, take_none, take_some}
use Rattle.layout_files.proofs.cursor.Cursor.takes_bytes.Goals as goal

pub returns-in-Some-clause-whether : goal.returns-in-Some-clause-whether
returns-in-Some-clause-whether c =
    let text = c.self.inside.left.now in
    let bytes = c.args.bytes.now in
    let works = ap (λ b. cond b None (Some text)) c.if-self.false in
    let found = strip_prefix_is Decides-eqb text bytes c.strip_prefix.result c.strip_prefix.ensures.cases in
    ap is_some (take_some c.args.self.now text bytes c.in-Some.left.now (sym works ∙ c.self.view_is) (in_Some _ _ c.strip_prefix.result c.in-Some.left c.in-Some.is found))

pub returns-in-Some-clause-left : goal.returns-in-Some-clause-left
returns-in-Some-clause-left c =
    let text = c.self.inside.left.now in
    let bytes = c.args.bytes.now in
    let works = ap (λ b. cond b None (Some text)) c.if-self.false in
    let found = strip_prefix_is Decides-eqb text bytes c.strip_prefix.result c.strip_prefix.ensures.cases in
    ap (λ b. cond b None (Some c.in-Some.left.now)) c.if-self.false
    ∙ take_some c.args.self.now text bytes c.in-Some.left.now (sym works ∙ c.self.view_is) (in_Some _ _ c.strip_prefix.result c.in-Some.left c.in-Some.is found)

pub returns-in-None-clause-whether : goal.returns-in-None-clause-whether
returns-in-None-clause-whether c =
    let text = c.self.inside.left.now in
    let bytes = c.args.bytes.now in
    let works = ap (λ b. cond b None (Some text)) c.if-self.false in
    let found = strip_prefix_is Decides-eqb text bytes c.strip_prefix.result c.strip_prefix.ensures.cases in
    ap is_some (take_none c.args.self.now text bytes (sym works ∙ c.self.view_is) (in_None _ _ c.strip_prefix.result c.in-None.is found))
