-- What a session holds.
use Rattle.session_threads.specs.Prelude.{ReadyId, TranscriptState}
use Rattle.session_threads.specs.declared.session.Session.{Session}

-- the ready queue that it pushes to
abbrev pub queue_of : {C : Type 0} → Session C → ReadyId
queue_of session = session.pass.of

abbrev pub transcript_of : {C : Type 0} → Session C → TranscriptState
transcript_of session = session.transcript
