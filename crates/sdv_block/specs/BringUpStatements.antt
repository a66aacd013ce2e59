-- The STATEMENTS before the requests: a card is brought up, its capacity is read, and a disk that is too small for the
-- batch is refused.
-- SD Physical Layer Simplified Specification, sections 4.2.3 (initialization) and 4.3 (selection); JESD84-B51, sections
-- 6.4 (device identification mode) and 7.4 (extended CSD register).
use Rattle.std.specs.Prelude.{ℕ, List, [], ◌∷◌, None, codes}
use Rattle.sdv_registers.specs.declared.kind.Kind.{Kind}
use Rattle.sdv_registers.specs.declared.kind.Kind.TheVariants.{Sd, Emmc}
use Rattle.sdv_card.specs.declared.event.Aim.{Aim}
use Rattle.sdv_card.specs.declared.event.Aim.TheVariants.{Plain, Rca}
use Rattle.sdv_card.specs.declared.guard.Guard.TheVariants.{Answer, Clean, App, OcrReady, OcrBlock}
use Rattle.sdv_graph.specs.declared.tree.ScriptCommand.{ScriptCommand}
use Rattle.sdv_graph.specs.declared.tree.Let.{Let}
use Rattle.sdv_graph.specs.declared.tree.Atom.{Atom}
use Rattle.sdv_graph.specs.declared.tree.Atom.TheVariants as atoms
use Rattle.sdv_graph.specs.declared.tree.Change.TheVariants as changes
use Rattle.sdv_graph.specs.declared.tree.Condition.TheVariants as conditions
use Rattle.sdv_graph.specs.declared.tree.Phase.TheVariants as phases
use Rattle.sdv_graph.specs.Tree.{Statements, nothing, first, Ways, otherwise, way, Statement, send, phase, setting, choice, set, turns, break, Declared}
use Rattle.sdv_script.specs.Rules.{ask_with}
use Rattle.sdv_block.specs.declared.request.Request.{Request}
use Rattle.sdv_block.specs.RequestStatements.{fails, only_if, batch_statements}

-- the flag `hc` tells that the card counts blocks, the number `cap` its capacity
abbrev pub batch_names : Kind → Declared
batch_names k = record { kind = k; flags = codes "hc" ∷ []; numbers = codes "cap" ∷ [] }

-- a command without an address
abbrev pub plain : (index : ℕ) → Aim → (argument : ℕ) → ScriptCommand
plain index aim argument = record { ask = ask_with index aim argument 0; address = None }

-- send INDEX { else { } }
abbrev pub sends_anyway : (index : ℕ) → Statement
sends_anyway index = send (plain index Plain 0) (otherwise nothing)

-- { ocr.ready & ocr.block { set hc break } ocr.ready { break } answer { } else { fault NAME } }
abbrev pub ocr_ways : (name : List ℕ) → Ways
ocr_ways name =
    way (OcrReady ∷ OcrBlock ∷ []) (first (set 0) (first break nothing)) (
    way (OcrReady ∷ []) (first break nothing) (
    way (Answer ∷ []) nothing (otherwise (fails name))))

-- send 41 0x40ff8000 { .. else { fault lost41 } }
abbrev pub ocr_statement : Statement
ocr_statement = send (plain 41 Plain 0x40ff8000) (ocr_ways (codes "lost41"))

-- send 55 { app { send 41 .. } else { fault lost55 } }
abbrev pub app_statement : Statement
app_statement =
    send (plain 55 Rca 0) (way (App ∷ []) (first ocr_statement nothing) (otherwise (fails (codes "lost55"))))

-- send 1 { .. else { fault lost1 } }
abbrev pub op_cond_statement : Statement
op_cond_statement = send (plain 1 Plain 0) (ocr_ways (codes "lost1"))

-- loop 1000 { .. } else { fault busy }
abbrev pub until_ready : Statement → Statement
until_ready asks = turns 1000 (first asks nothing) (fails (codes "busy"))

-- the card is asked for its operating conditions until it is ready
abbrev pub ready_statements : Kind → Statements → Statements
ready_statements Sd rest = first (sends_anyway 8) (first (until_ready app_statement) rest)
ready_statements Emmc rest = first (until_ready op_cond_statement) rest

-- let cap = ATOM
abbrev pub cap_from : Atom → Let
cap_from atom = record { target = 0; atom = atom; change = changes.Same }

-- send 8 { clean { recv reg { ok { let cap = ext.blocks } else { fault ext } } } else { fault ext } }
abbrev pub ext_csd_statement : Statement
ext_csd_statement =
    send (plain 8 Plain 0) (
    way (Clean ∷ []) (first
    (phase phases.ReceiveRegister (first (setting (cap_from atoms.ExtBlocks)) nothing) (fails (codes "ext")))
    nothing) (
    otherwise (fails (codes "ext"))))

-- an SD card tells its capacity by its CSD, an e.MMC device that counts blocks by its EXT_CSD
abbrev pub capacity_statement : Kind → Statement
capacity_statement Sd = setting (cap_from atoms.CsdBlocks)
capacity_statement Emmc =
    choice (conditions.Flag 0) (first ext_csd_statement nothing) (first (setting (cap_from atoms.CsdBlocks)) nothing)

-- the card is identified and selected, and its block length is 512
abbrev pub select_statements : Statements → Statements
select_statements rest =
    first (send (plain 2 Plain 0) (only_if (Answer ∷ []) (codes "cid"))) (
    first (send (plain 3 Plain 0) (only_if (Clean ∷ []) (codes "rca"))) (
    first (send (plain 9 Rca 0) (only_if (Answer ∷ []) (codes "csd"))) (
    first (send (plain 7 Rca 0) (only_if (Clean ∷ []) (codes "select"))) (
    first (send (plain 16 Plain 0) (only_if (Clean ∷ []) (codes "blen"))) rest))))

abbrev pub bring_up : Kind → Statements → Statements
bring_up k rest = first (sends_anyway 0) (ready_statements k (select_statements (first (capacity_statement k) rest)))

-- if cap >= LEAST { } else { fault beyond }
abbrev pub capacity_test : ℕ → Statement
capacity_test least = choice (conditions.AtLeast 0 least) nothing (fails (codes "beyond"))

-- the whole script
abbrev pub batch_body : Kind → (least : ℕ) → List Request → Statements
batch_body k least rs = bring_up k (first (capacity_test least) (batch_statements rs))
