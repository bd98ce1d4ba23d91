use Rattle.live_log.proofs.Prelude.{◌≡◌, ◌++◌, [], drop, texts, newest}
use Rattle.live_log.proofs.last_tags.newest_of.Given as goal

-- with the newest of those that are left they are all
abbrev pub invariant-loop-tag : goal.invariant-loop-tag
invariant-loop-tag l = texts l.found.items ++ newest l.owners (texts (drop l.tag-index l.tags)) ≡ newest [] (texts l.tags)
