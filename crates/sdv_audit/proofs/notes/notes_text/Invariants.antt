use Rattle.std.proofs.Common.{drop}
use Rattle.sdv_audit.proofs.NoteLaws.{NotesBefore}
use Rattle.sdv_audit.proofs.notes.notes_text.Given as goal

-- the notes on the topics so far
abbrev pub invariant-loop-topic : goal.invariant-loop-topic
invariant-loop-topic l = NotesBefore l.at.style l.at.number l.at.line.now l.at.premises l.found l.topics (drop l.topic-index l.topics) l.text.items
