use Rattle.std.proofs.Common.{◌≡◌, ◌++◌, ◌-◌, take, length, ◌∙◌, rules}
use Rattle.line_feed.proofs.CutLemmas.{kept_more}
use Rattle.line_feed.proofs.fed_line.FedLine.append.Goals as goal

pub returns : goal.returns
returns c = λ line kept.
    let appended : c.extend_from_slice.new.self.items ≡ c.args.self.now ++ take (1048640 - length c.args.self.now) c.args.bytes.now = search rules in
    appended ∙ kept_more c.args.self.now line c.args.bytes.now kept
