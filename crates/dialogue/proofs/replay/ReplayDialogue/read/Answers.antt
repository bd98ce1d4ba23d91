use Rattle.dialogue.proofs.replay.ReplayDialogue.read.Goals as goal

pub returns-in-Err : goal.returns-in-Err
returns-in-Err g c = record { count = 0; happens = record { kept = tt; told = tt; in_order = tt }; failed = c.in-Err.ensures.fails }
