use Rattle.device_lines.proofs.Prelude.{seen_of}
use Rattle.device_lines.proofs.StepLemmas.{reply_heading, reply_listed, reply_other}
use Rattle.device_lines.proofs.reader.Reader.reply.Goals as goal

pub returns-then-begins_with_digit : goal.returns-then-begins_with_digit
returns-then-begins_with_digit c = reply_listed (seen_of c.args.self.now) _ c.args.line.now c.args.number _ c.if-begins_with_digit.ensures c.tenancy.ensures

pub returns-then-is_heading : goal.returns-then-is_heading
returns-then-is_heading c = reply_heading (seen_of c.args.self.now) c.args.line.now c.args.number c.if-begins_with_digit.ensures c.if-is_heading.ensures

pub returns : goal.returns
returns c = reply_other (seen_of c.args.self.now) _ c.args.line.now c.args.number _ c.if-begins_with_digit.ensures c.if-is_heading.ensures c.read_other.ensures
