-- The TEXT of a batch, line by line.
use Rattle.std.specs.Prelude.{ℕ, zero, suc, List, [], ◌∷◌, ◌++◌, codes}
use Rattle.std.specs.Fmt.{decimal}
use Rattle.sdv_registers.specs.declared.kind.Kind.{Kind}
use Rattle.sdv_registers.specs.declared.kind.Kind.TheVariants.{Sd, Emmc}
use Rattle.sdv_script.specs.Script.{Parsed}
use Rattle.sdv_block.specs.BringUpStatements.{batch_names, batch_body}
use Rattle.sdv_block.specs.declared.request.Request.{Request}
use Rattle.sdv_block.specs.declared.request.Request.TheVariants.{Read, Write}
use Rattle.sdv_block.specs.Disk.{greatest_end}

-- a line, and the lines after it
abbrev pub line : List ℕ → List ℕ → List ℕ
line text others = text ++ 10 ∷ others

-- a line with a number between its words
abbrev pub line_with : (before : List ℕ) → ℕ → (behind : List ℕ) → List ℕ → List ℕ
line_with before n behind others = before ++ 32 ∷ (decimal n ++ 32 ∷ line behind others)

-- a line with a block and a count between its words
abbrev pub counted_line : (before : List ℕ) → (block count : ℕ) → (behind : List ℕ) → List ℕ → List ℕ
counted_line before block count behind others =
    before ++ 32 ∷ (decimal block ++ 32 ∷ line_with (codes "count") count behind others)

-- THE BRING-UP

abbrev pub card_text : Kind → List ℕ
card_text Sd = codes "card sd"
card_text Emmc = codes "card emmc"

abbrev pub ready_text : Kind → List ℕ → List ℕ
ready_text Sd others =
    line (codes "send 8 { else { } }") (
    line (codes "loop 1000 { send 55 { app { send 41 0x40ff8000 { ocr.ready & ocr.block { set hc break } ocr.ready { break } answer { } else { fault lost41 } } } else { fault lost55 } } } else { fault busy }") others)
ready_text Emmc others =
    line (codes "loop 1000 { send 1 { ocr.ready & ocr.block { set hc break } ocr.ready { break } answer { } else { fault lost1 } } } else { fault busy }") others

abbrev pub capacity_text : Kind → List ℕ
capacity_text Sd = codes "let cap = csd.blocks"
capacity_text Emmc =
    codes "if hc { send 8 { clean { recv reg { ok { let cap = ext.blocks } else { fault ext } } } else { fault ext } } } else { let cap = csd.blocks }"

abbrev pub select_text : List ℕ → List ℕ
select_text others =
    line (codes "send 2 { answer { } else { fault cid } }") (
    line (codes "send 3 { clean { } else { fault rca } }") (
    line (codes "send 9 { answer { } else { fault csd } }") (
    line (codes "send 7 { clean { } else { fault select } }") (
    line (codes "send 16 { clean { } else { fault blen } }") others))))

abbrev pub bring_up_text : Kind → List ℕ → List ℕ
bring_up_text k others =
    line (card_text k) (
    line (codes "flags hc") (
    line (codes "nums cap") (
    line (codes "send 0 { else { } }") (
    ready_text k (
    select_text (
    line (capacity_text k) others))))))

-- THE REQUESTS

abbrev pub test_text : (least : ℕ) → List ℕ → List ℕ
test_text least others = line_with (codes "if cap >=") least (codes "{ } else { fault beyond }") others

abbrev pub single_read_text : (block : ℕ) → List ℕ → List ℕ
single_read_text block others =
    line_with (codes "send 17 at by hc") block (codes "{ clean { } else { fault read } }") (
    line (codes "recv { ok { } else { fault read } }") others)

abbrev pub multiple_read_text : (block count : ℕ) → List ℕ → List ℕ
multiple_read_text block count others =
    counted_line (codes "send 18 at by hc") block count (codes "{ clean { } else { fault read } }") (
    line (codes "recv { ok { } else { fault read } }") (
    line (codes "send 12 { answer { } else { fault read } }") (
    line (codes "loop 1000 { send 13 { clean & state=tran { break } answer { } else { fault read } } } else { fault read }") others)))

abbrev pub settle_text : List ℕ → List ℕ
settle_text others =
    line (codes "loop 1000 { wait { ok { break } else { } } } else { fault busy }") (
    line (codes "send 13 { clean & state=tran { } else { fault write } }") others)

abbrev pub single_write_text : (block : ℕ) → List ℕ → List ℕ
single_write_text block others =
    line_with (codes "send 24 at by hc") block (codes "{ clean { } else { fault write } }") (
    line (codes "give { ok { } else { fault write } }") (settle_text others))

abbrev pub multiple_write_text : (block count : ℕ) → List ℕ → List ℕ
multiple_write_text block count others =
    counted_line (codes "send 25 at by hc") block count (codes "{ clean { } else { fault write } }") (
    line (codes "give { ok { } else { fault write } }") (
    line (codes "send 12 { clean { } else { fault write } }") (settle_text others)))

-- one block has lines of its own
abbrev pub request_text : Request → List ℕ → List ℕ
request_text (Read block (suc zero)) others = single_read_text block others
request_text (Read block count) others = multiple_read_text block count others
request_text (Write block (suc zero)) others = single_write_text block others
request_text (Write block count) others = multiple_write_text block count others

abbrev pub requests_text : List Request → List ℕ → List ℕ
requests_text [] others = others
requests_text (r ∷ rs) others = request_text r (requests_text rs others)

-- the whole text
abbrev pub batch_text : Kind → (least : ℕ) → List Request → List ℕ
batch_text k least rs = bring_up_text k (test_text least (requests_text rs (line (codes "done") [])))

-- the script of a batch: its text, its names and its statements
abbrev pub batch_script : Kind → List Request → Parsed
batch_script k rs = record {
  text = batch_text k (greatest_end rs) rs;
  names = batch_names k;
  body = batch_body k (greatest_end rs) rs;
}
