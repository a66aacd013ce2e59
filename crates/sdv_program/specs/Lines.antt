-- A LINE of the program: a command with its words, as clap's matches hold them, command by command. What it asks for,
-- `Together.antt` says.
use Rattle.std.specs.Prelude.{Bool, false, List, [], Option, Some, None, codes, if◌then◌else◌, option_and_then, option_map, unwrap_or}
use Rattle.std.specs.Str.{bytes_eq}
use Rattle.clap.specs.Walk.{texts}
use Rattle.clap.specs.Words.{Row, Text, all_of, first_of}
use Rattle.sdv_program.specs.declared.line.Line.{Line as CodeLine}
use Rattle.sdv_program.specs.declared.line.Line.TheVariants.{Verify, Frame, Certify, Check, Run, Batch, Explain, Emit, Audit, Drive, Card, Try}
use Rattle.sdv_program.specs.declared.line.AuditLine.{AuditLine}
use Rattle.sdv_program.specs.declared.line.CardLine.{CardLine}
use Rattle.sdv_program.specs.declared.line.ExplainLine.{ExplainLine}
use Rattle.sdv_program.specs.declared.line.TryLine.{TryLine}
use Rattle.sdv_program.specs.Requests.{Request, verify, verify_names_of, frame, certify, check, run, batch, drive, emit, drive_names_of, emit_names_of, names_of}

-- the words of an explanation or of a drawing
pub record ExplainTexts : Type 0 where
  pub script : Text
  pub certificate : Option Text
  pub why : Bool
  pub dot : Bool
  pub no_faults : Bool

-- the words of an audit, or of a trace that is read beside its script
pub record AuditTexts : Type 0 where
  pub kind : Text
  pub trace : Text
  pub script : Option Text
  pub registers : Option Text
  pub json : Bool
  pub annotate : Bool
  pub running : Bool
  pub svg : Bool

-- the words of a card that answers lines, or that is described
pub record CardTexts : Type 0 where
  pub card : Text
  pub image : Option Text
  pub schedule : Option Text
  pub describe : Bool

-- the words of a run without a certificate, or of all runs with one mishap
pub record TryTexts : Type 0 where
  pub script : Text
  pub card : Text
  -- the further ones
  pub more_cards : List Text
  pub image : Text
  pub schedule : Option Text
  pub input : Option Text
  pub output : Option Text
  pub each : Bool
  pub only : Option Text
  pub json : Bool
  pub lines : Bool

pub data Line : Type 0 where
  -- of a command whose words go together in any case
  always : Request → Line
  of_explain : ExplainTexts → Line
  of_audit : AuditTexts → Line
  of_card : CardTexts → Line
  of_try : TryTexts → Line

-- THE ROWS that clap matched for the words of a command

-- the line that a word of this name gives, where it was given
abbrev pub by_word : (name : Text) → List Row → (Text → Option Line) → Option Line
by_word name rows line = option_and_then line (first_of name rows)

abbrev pub by_script : (Text → Request) → List Row → Option Line
by_script request rows = by_word (codes "SCRIPT") rows (λ script. Some (always (request script)))

abbrev pub by_two_words : (first second : Text) → (Text → Text → Request) → List Row → Option Line
by_two_words first second request rows = by_word first rows (λ a. by_word second rows (λ b. Some (always (request a b))))

-- a flag that was given has the value `true`
abbrev pub is_true : Option Text → Bool
is_true None = false
is_true (Some value) = bytes_eq value (codes "true")

abbrev pub is_set : (name : Text) → List Row → Bool
is_set name rows = is_true (first_of name rows)

-- all words of this name, in their order
abbrev pub words_of : (name : Text) → List Row → List Text
words_of name rows = unwrap_or (all_of name rows) []

abbrev pub by_verify_words : List Row → Line
by_verify_words rows = always (verify (record {
  files = words_of (codes "FILE") rows;
  allowed = words_of (codes "allow") rows;
  json = is_set (codes "json") rows;
  no_run = is_set (codes "no-run") rows;
  save = first_of (codes "save") rows;
}))

abbrev pub by_run_words : List Row → Option Line
by_run_words rows =
    by_word (codes "SCRIPT") rows (λ script. by_word (codes "CERT") rows (λ certificate. by_word (codes "CARD") rows (λ card.
    by_word (codes "IMAGE") rows (λ image. Some (always (run (record {
      script = script;
      certificate = certificate;
      card = card;
      image = image;
      schedule = first_of (codes "SCHEDULE") rows;
      input = first_of (codes "in") rows;
      output = first_of (codes "out") rows;
      registers = first_of (codes "registers") rows;
    })))))))

abbrev pub by_explain_words : List Row → Option Line
by_explain_words rows = by_word (codes "SCRIPT") rows (λ script. Some (of_explain (record {
  script = script;
  certificate = first_of (codes "CERT") rows;
  why = is_set (codes "why") rows;
  dot = is_set (codes "dot") rows;
  no_faults = is_set (codes "no-faults") rows;
})))

abbrev pub by_emit_words : List Row → Option Line
by_emit_words rows =
    by_word (codes "SCRIPT") rows (λ script. by_word (codes "CERT") rows (λ certificate. by_word (codes "NAME") rows (λ name.
    Some (always (emit (record {
      script = script;
      certificate = certificate;
      name = name;
      binary = first_of (codes "binary") rows;
    }))))))

abbrev pub by_audit_words : List Row → Option Line
by_audit_words rows =
    by_word (codes "KIND") rows (λ kind. by_word (codes "TRACE") rows (λ trace. Some (of_audit (record {
      kind = kind;
      trace = trace;
      script = first_of (codes "script") rows;
      registers = first_of (codes "registers") rows;
      json = is_set (codes "json") rows;
      annotate = is_set (codes "annotate") rows;
      running = is_set (codes "running") rows;
      svg = is_set (codes "svg") rows;
    }))))

abbrev pub by_drive_words : List Row → Option Line
by_drive_words rows =
    by_two_words (codes "SCRIPT") (codes "CERT") (λ script certificate. drive (record {
      script = script;
      certificate = certificate;
      input = first_of (codes "in") rows;
      output = first_of (codes "out") rows;
      trace = first_of (codes "trace") rows;
      plain = is_set (codes "plain") rows;
    })) rows

abbrev pub by_card_words : List Row → Option Line
by_card_words rows = by_word (codes "CARD") rows (λ card. Some (of_card (record {
  card = card;
  image = first_of (codes "IMAGE") rows;
  schedule = first_of (codes "SCHEDULE") rows;
  describe = is_set (codes "describe") rows;
})))

-- beside further cards
abbrev pub by_try_words_beside : (more_cards : List Text) → List Row → Option Line
by_try_words_beside more_cards rows =
    by_word (codes "SCRIPT") rows (λ script. by_word (codes "CARD") rows (λ card. by_word (codes "IMAGE") rows (λ image.
    Some (of_try (record {
      script = script;
      card = card;
      more_cards = more_cards;
      image = image;
      schedule = first_of (codes "SCHEDULE") rows;
      input = first_of (codes "in") rows;
      output = first_of (codes "out") rows;
      each = is_set (codes "each") rows;
      only = first_of (codes "only") rows;
      json = is_set (codes "json") rows;
      lines = is_set (codes "lines") rows;
    })))))

abbrev pub by_try_words : List Row → Option Line
by_try_words rows = by_try_words_beside (words_of (codes "card") rows) rows

-- the line in a command's name and the rows of its words
abbrev pub other_line_in : (name : Text) → List Row → Option Line
other_line_in name rows =
    if bytes_eq name (codes "frame") then by_two_words (codes "INDEX") (codes "ARG") frame rows
    else if bytes_eq name (codes "certify") then by_script certify rows
    else if bytes_eq name (codes "check") then by_two_words (codes "SCRIPT") (codes "CERT") check rows
    else if bytes_eq name (codes "run") then by_run_words rows
    else if bytes_eq name (codes "batch") then by_two_words (codes "KIND") (codes "REQUESTS") batch rows
    else if bytes_eq name (codes "explain") then by_explain_words rows
    else if bytes_eq name (codes "emit") then by_emit_words rows
    else if bytes_eq name (codes "audit") then by_audit_words rows
    else if bytes_eq name (codes "drive") then by_drive_words rows
    else if bytes_eq name (codes "card") then by_card_words rows
    else None

abbrev pub line_in : Text × List Row → Option Line
line_in used =
    if bytes_eq used.0 (codes "verify") then Some (by_verify_words used.1)
    else if bytes_eq used.0 (codes "try") then by_try_words used.1
    else other_line_in used.0 used.1

-- THE CODE'S LINE, with references to the words

abbrev pub explain_line_of : ExplainLine → ExplainTexts
explain_line_of words = record {
  script = words.script.now;
  certificate = option_map (λ file. file.now) words.certificate;
  why = words.why;
  dot = words.dot;
  no_faults = words.no_faults;
}

abbrev pub audit_line_of : AuditLine → AuditTexts
audit_line_of words = record {
  kind = words.kind.now;
  trace = words.trace.now;
  script = option_map (λ file. file.now) words.script;
  registers = option_map (λ file. file.now) words.registers;
  json = words.json;
  annotate = words.annotate;
  running = words.running;
  svg = words.svg;
}

abbrev pub card_line_of : CardLine → CardTexts
card_line_of words = record {
  card = words.card.now;
  image = option_map (λ file. file.now) words.image;
  schedule = option_map (λ file. file.now) words.schedule;
  describe = words.describe;
}

abbrev pub try_line_of : TryLine → TryTexts
try_line_of words = record {
  script = words.script.now;
  card = words.card.now;
  more_cards = texts words.more_cards.items;
  image = words.image.now;
  schedule = option_map (λ file. file.now) words.schedule;
  input = option_map (λ file. file.now) words.input;
  output = option_map (λ file. file.now) words.output;
  each = words.each;
  only = option_map (λ word. word.now) words.only;
  json = words.json;
  lines = words.lines;
}

abbrev pub seen_line : CodeLine → Line
seen_line (Verify words) = always (verify (verify_names_of words))
seen_line (Frame index argument) = always (frame index.now argument.now)
seen_line (Certify script) = always (certify script.now)
seen_line (Check script certificate) = always (check script.now certificate.now)
seen_line (Run files) = always (run (names_of files))
seen_line (Batch kind requests) = always (batch kind.now requests.now)
seen_line (Explain words) = of_explain (explain_line_of words)
seen_line (Emit words) = always (emit (emit_names_of words))
seen_line (Audit words) = of_audit (audit_line_of words)
seen_line (Drive files) = always (drive (drive_names_of files))
seen_line (Card words) = of_card (card_line_of words)
seen_line (Try words) = of_try (try_line_of words)
