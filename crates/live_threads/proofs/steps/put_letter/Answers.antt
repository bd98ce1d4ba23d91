use Rattle.live_threads.proofs.StepLemmas.{put_served}
use Rattle.live_threads.proofs.steps.put_letter.Goals as goal

pub returns-in_ok-put-in-Made-clause-served : goal.returns-in_ok-put-in-Made-clause-served
returns-in_ok-put-in-Made-clause-served c = λ view. put_served _ _ _ _ view c.in_ok-put-in-Made.ensures.puts

pub returns-in_ok-give_back-in-NoMemory-clause-served : goal.returns-in_ok-give_back-in-NoMemory-clause-served
returns-in_ok-give_back-in-NoMemory-clause-served c = λ view. put_served _ _ _ _ view c.in_ok-give_back-in-NoMemory.ensures.gives
