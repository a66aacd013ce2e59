-- Which words of a command go TOGETHER, and what a line then asks for.
use Rattle.std.specs.Prelude.{Bool, true, false, ◌&&◌, ◌==◌, not, length, Option, Some, None, codes, if◌then◌else◌, is_some, option_map}
use Rattle.std.specs.Str.{bytes_eq}
use Rattle.clap.specs.Words.{Text}
use Rattle.sdv_program.specs.Lines.{Line, AuditTexts, CardTexts, ExplainTexts, TryTexts, always, of_audit, of_card, of_explain, of_try}
use Rattle.sdv_program.specs.Requests.{Request, attempt, audit, decode, describe, explain, graph, serve, sweep}

-- the request, where nothing stands in its way
abbrev pub unless : (clash : Bool) → Request → Option Request
unless clash request = if clash then None else Some request

-- a drawing is of the script alone, and it alone leaves faults out
abbrev pub explain_request : ExplainTexts → Option Request
explain_request words =
    if words.dot
    then (if words.why then None
    else unless (is_some words.certificate) (graph (record { script = words.script; no_faults = words.no_faults })))
    else unless words.no_faults
    (explain (record { script = words.script; certificate = words.certificate; why = words.why }))

-- a trace for itself, of which neither registers nor a picture are known; or one beside its script, whose lines are not annotated and
-- which begins at power-on, as JSON, as a picture or in words
abbrev pub audit_by_script : AuditTexts → Option Text → Option Request
audit_by_script words None =
    if words.svg then None
    else unless (is_some words.registers)
    (audit (record {
      kind = words.kind;
      trace = words.trace;
      json = words.json;
      annotate = words.annotate;
      running = words.running;
    }))
audit_by_script words (Some script) =
    if words.annotate then None
    else if words.running then None
    else unless (words.json && words.svg) (decode (record {
      kind = words.kind;
      script = script;
      trace = words.trace;
      registers = words.registers;
      json = words.json;
      svg = words.svg;
    }))

abbrev pub audit_request : AuditTexts → Option Request
audit_request words = audit_by_script words words.script

-- the schedule of a card that is described stands in the place of the image
abbrev pub served : CardTexts → (image : Option Text) → Option Request
served words None = None
served words (Some image) = Some (serve (record { card = words.card; image = image; schedule = words.schedule }))

abbrev pub card_request : CardTexts → Option Request
card_request words =
    if words.describe then unless (is_some words.schedule) (describe words.card words.image)
    else served words words.image

-- the runs alone are told that come to what is not allowed, where the word for these is given; there is no other such word
abbrev pub only_wrong_by : Option Text → Option Bool
only_wrong_by None = Some false
only_wrong_by (Some word) = if bytes_eq word (codes "wrong") then Some true else None

abbrev pub swept : TryTexts → (only_wrong : Bool) → Request
swept words only_wrong = sweep (record {
  script = words.script;
  card = words.card;
  more_cards = words.more_cards;
  image = words.image;
  input = words.input;
  only_wrong = only_wrong;
  json = words.json;
})

-- runs with each mishap have their own schedules, and no output or trace
abbrev pub sweep_request : TryTexts → Option Request
sweep_request words =
    if words.lines then None
    else if is_some words.schedule then None
    else if is_some words.output then None
    else option_map (swept words) (only_wrong_by words.only)

-- a single run has one card and a trace, and no table
abbrev pub attempt_request : TryTexts → Option Request
attempt_request words =
    if words.json then None
    else if not (length words.more_cards == 0) then None
    else unless (is_some words.only) (attempt (record {
      script = words.script;
      card = words.card;
      image = words.image;
      schedule = words.schedule;
      input = words.input;
      output = words.output;
      lines = words.lines;
    }))

abbrev pub try_request : TryTexts → Option Request
try_request words = if words.each then sweep_request words else attempt_request words

abbrev pub request_of : Line → Option Request
request_of (always request) = Some request
request_of (of_explain words) = explain_request words
request_of (of_audit words) = audit_request words
request_of (of_card words) = card_request words
request_of (of_try words) = try_request words
