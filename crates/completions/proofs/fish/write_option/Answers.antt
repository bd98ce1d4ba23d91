use Rattle.completions.proofs.fish.write_option.Goals as goal

pub returns-in-Nothing : goal.returns-in-Nothing
returns-in-Nothing g c = rw c.in-Nothing.is c.write_line.ensures

pub returns-in-Text : goal.returns-in-Text
returns-in-Text g c = rw c.in-Text.is c.write_line-in-Text.ensures

pub returns-in-GivenText : goal.returns-in-GivenText
returns-in-GivenText g c = rw c.in-GivenText.is c.write_line-in-GivenText.ensures

pub returns-in-Number : goal.returns-in-Number
returns-in-Number g c = rw c.in-Number.is c.write_line-in-Number.ensures

pub returns-in-Long : goal.returns-in-Long
returns-in-Long g c = rw c.in-Long.is c.write_line-in-Long.ensures

pub returns-in-Word : goal.returns-in-Word
returns-in-Word g c = rw c.in-Word.is c.write_line-in-Word.ensures
