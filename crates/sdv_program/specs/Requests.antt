-- What is asked of the program: a REQUEST, with the texts of its words.
use Rattle.std.specs.Prelude.{Bool, List, Option, option_map}
use Rattle.clap.specs.Walk.{texts}
use Rattle.clap.specs.Words.{Text}
use Rattle.sdv_program.specs.declared.request.Request.{Request as CodeRequest}
use Rattle.sdv_program.specs.declared.request.Request.TheVariants.{Verify, Frame, Certify, Check, Run, Batch, Explain, Graph, Emit, Audit, Decode, Drive, Card, Describe, Try, Sweep}
use Rattle.sdv_program.specs.declared.line.VerifyWords.{VerifyWords}
use Rattle.sdv_program.specs.declared.line.RunFiles.{RunFiles}
use Rattle.sdv_program.specs.declared.line.EmitWords.{EmitWords}
use Rattle.sdv_program.specs.declared.line.DriveFiles.{DriveFiles}
use Rattle.sdv_program.specs.declared.request.AuditWords.{AuditWords}
use Rattle.sdv_program.specs.declared.request.CardFiles.{CardFiles}
use Rattle.sdv_program.specs.declared.request.ExplainWords.{ExplainWords}
use Rattle.sdv_program.specs.declared.request.GraphWords.{GraphWords}
use Rattle.sdv_program.specs.declared.request.TryFiles.{TryFiles}
use Rattle.sdv_program.specs.declared.request.SweepFiles.{SweepFiles}
use Rattle.sdv_program.specs.declared.request.DecodeWords.{DecodeWords}

-- the files of scripts, by their names, the kinds of findings that are left out, the form of what is printed, whether runs are
-- looked for, and the folder that takes what they need
pub record VerifyNames : Type 0 where
  pub files : List Text
  pub allowed : List Text
  pub json : Bool
  pub no_run : Bool
  pub save : Option Text

-- the files of a run, by their names
pub record RunNames : Type 0 where
  pub script : Text
  pub certificate : Text
  pub card : Text
  pub image : Text
  pub schedule : Option Text
  pub input : Option Text
  pub output : Option Text
  pub registers : Option Text

-- the files of a table, by their names, and the name of its array
pub record EmitNames : Type 0 where
  pub script : Text
  pub certificate : Text
  pub name : Text
  pub binary : Option Text

-- the kind of a card, the file of a trace, and how the report on it is printed
pub record AuditNames : Type 0 where
  pub kind : Text
  pub trace : Text
  pub json : Bool
  pub annotate : Bool
  pub running : Bool

-- the files of a run over lines, by their names
pub record DriveNames : Type 0 where
  pub script : Text
  pub certificate : Text
  pub input : Option Text
  pub output : Option Text
  pub trace : Option Text
  -- requests announce no data phases
  pub plain : Bool

-- the files of a card that answers lines, by their names
pub record CardNames : Type 0 where
  pub card : Text
  pub image : Text
  pub schedule : Option Text

-- the files of a script and of a certificate, if it is asked about one, and whether the reason alone is wanted
pub record ExplainNames : Type 0 where
  pub script : Text
  pub certificate : Option Text
  pub why : Bool

-- the file of a script, and whether its faults are left out
pub record GraphNames : Type 0 where
  pub script : Text
  pub no_faults : Bool

-- the files of a run without a certificate, by their names, and whether its trace has the data lines of the host
pub record TryNames : Type 0 where
  pub script : Text
  pub card : Text
  pub image : Text
  pub schedule : Option Text
  pub input : Option Text
  pub output : Option Text
  pub lines : Bool

-- the files of all runs with one mishap, by their names
pub record SweepNames : Type 0 where
  pub script : Text
  pub card : Text
  -- the further ones, over blocks of zeros
  pub more_cards : List Text
  pub image : Text
  pub input : Option Text
  pub only_wrong : Bool
  pub json : Bool

-- the kind of a card, the files of a script and of a trace, that of the bytes of registers if it is given, and how the answer is
-- printed
pub record DecodeNames : Type 0 where
  pub kind : Text
  pub script : Text
  pub trace : Text
  pub registers : Option Text
  pub json : Bool
  pub svg : Bool

pub data Request : Type 0 where
  verify : VerifyNames → Request
  frame : (index argument : Text) → Request
  certify : (script : Text) → Request
  check : (script certificate : Text) → Request
  run : RunNames → Request
  batch : (kind requests : Text) → Request
  explain : ExplainNames → Request
  graph : GraphNames → Request
  emit : EmitNames → Request
  audit : AuditNames → Request
  decode : DecodeNames → Request
  drive : DriveNames → Request
  -- a card that answers lines
  serve : CardNames → Request
  describe : (card : Text) (schedule : Option Text) → Request
  -- a run without a certificate
  attempt : TryNames → Request
  sweep : SweepNames → Request

-- THE CODE'S REQUEST, with references to the words

abbrev pub verify_names_of : VerifyWords → VerifyNames
verify_names_of words = record {
  files = texts words.files.items;
  allowed = texts words.allowed.items;
  json = words.json;
  no_run = words.no_run;
  save = option_map (λ folder. folder.now) words.save;
}

abbrev pub names_of : RunFiles → RunNames
names_of files = record {
  script = files.script.now;
  certificate = files.certificate.now;
  card = files.card.now;
  image = files.image.now;
  schedule = option_map (λ file. file.now) files.schedule;
  input = option_map (λ file. file.now) files.input;
  output = option_map (λ file. file.now) files.output;
  registers = option_map (λ file. file.now) files.registers;
}

abbrev pub emit_names_of : EmitWords → EmitNames
emit_names_of words = record {
  script = words.script.now;
  certificate = words.certificate.now;
  name = words.name.now;
  binary = option_map (λ file. file.now) words.binary;
}

abbrev pub audit_names_of : AuditWords → AuditNames
audit_names_of words =
    record {
      kind = words.kind.now;
      trace = words.trace.now;
      json = words.json;
      annotate = words.annotate;
      running = words.running;
    }

abbrev pub drive_names_of : DriveFiles → DriveNames
drive_names_of files = record {
  script = files.script.now;
  certificate = files.certificate.now;
  input = option_map (λ file. file.now) files.input;
  output = option_map (λ file. file.now) files.output;
  trace = option_map (λ file. file.now) files.trace;
  plain = files.plain;
}

abbrev pub card_names_of : CardFiles → CardNames
card_names_of files = record {
  card = files.card.now;
  image = files.image.now;
  schedule = option_map (λ file. file.now) files.schedule;
}

abbrev pub try_names_of : TryFiles → TryNames
try_names_of files = record {
  script = files.script.now;
  card = files.card.now;
  image = files.image.now;
  schedule = option_map (λ file. file.now) files.schedule;
  input = option_map (λ file. file.now) files.input;
  output = option_map (λ file. file.now) files.output;
  lines = files.lines;
}

abbrev pub sweep_names_of : SweepFiles → SweepNames
sweep_names_of files = record {
  script = files.script.now;
  card = files.card.now;
  more_cards = texts files.more_cards.items;
  image = files.image.now;
  input = option_map (λ file. file.now) files.input;
  only_wrong = files.only_wrong;
  json = files.json;
}

abbrev pub explain_names_of : ExplainWords → ExplainNames
explain_names_of words = record {
  script = words.script.now;
  certificate = option_map (λ file. file.now) words.certificate;
  why = words.why;
}

abbrev pub graph_names_of : GraphWords → GraphNames
graph_names_of words = record { script = words.script.now; no_faults = words.no_faults }

abbrev pub decode_names_of : DecodeWords → DecodeNames
decode_names_of words = record {
  kind = words.kind.now;
  script = words.script.now;
  trace = words.trace.now;
  registers = option_map (λ file. file.now) words.registers;
  json = words.json;
  svg = words.svg;
}

abbrev pub seen : CodeRequest → Request
seen (Verify words) = verify (verify_names_of words)
seen (Frame index argument) = frame index.now argument.now
seen (Certify script) = certify script.now
seen (Check script certificate) = check script.now certificate.now
seen (Run files) = run (names_of files)
seen (Batch kind requests) = batch kind.now requests.now
seen (Explain words) = explain (explain_names_of words)
seen (Graph words) = graph (graph_names_of words)
seen (Emit words) = emit (emit_names_of words)
seen (Audit words) = audit (audit_names_of words)
seen (Decode words) = decode (decode_names_of words)
seen (Drive files) = drive (drive_names_of files)
seen (Card files) = serve (card_names_of files)
seen (Describe card schedule) = describe card.now (option_map (λ file. file.now) schedule)
seen (Try files) = attempt (try_names_of files)
seen (Sweep files) = sweep (sweep_names_of files)
