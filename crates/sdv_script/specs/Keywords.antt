-- The reserved words: how each is spelled.
use Rattle.std.specs.Prelude.{ℕ, List, [], ◌∷◌, Bool, codes}
use Rattle.std.specs.Str.{bytes_eq}
use Rattle.sdv_script.specs.declared.keyword.Keyword.{Keyword}
use Rattle.sdv_script.specs.declared.keyword.Keyword.TheVariants as word

abbrev pub keyword_text : Keyword → List ℕ
keyword_text word.Card = codes "card"
keyword_text word.Sd = codes "sd"
keyword_text word.Emmc = codes "emmc"
keyword_text word.Flags = codes "flags"
keyword_text word.Nums = codes "nums"
keyword_text word.Send = codes "send"
keyword_text word.Else = codes "else"
keyword_text word.Recv = codes "recv"
keyword_text word.Reg = codes "reg"
keyword_text word.Give = codes "give"
keyword_text word.Wait = codes "wait"
keyword_text word.Ok = codes "ok"
keyword_text word.Let = codes "let"
keyword_text word.If = codes "if"
keyword_text word.Set = codes "set"
keyword_text word.Clear = codes "clear"
keyword_text word.BusLines = codes "bus.lines"
keyword_text word.PartAccess = codes "part.access"
keyword_text word.Loop = codes "loop"
keyword_text word.Break = codes "break"
keyword_text word.Done = codes "done"
keyword_text word.Fault = codes "fault"
keyword_text word.CsdBlocks = codes "csd.blocks"
keyword_text word.ExtBlocks = codes "ext.blocks"
keyword_text word.ExtBoot = codes "ext.boot"
keyword_text word.At = codes "at"
keyword_text word.Block = codes "block"
keyword_text word.Byte = codes "byte"
keyword_text word.By = codes "by"
keyword_text word.Timeout = codes "timeout"
keyword_text word.Answer = codes "answer"
keyword_text word.Clean = codes "clean"
keyword_text word.Ready = codes "ready"
keyword_text word.App = codes "app"
keyword_text word.Echo = codes "echo"
keyword_text word.OcrReady = codes "ocr.ready"
keyword_text word.OcrBlock = codes "ocr.block"
keyword_text word.State = codes "state"
keyword_text word.None = codes "none"
keyword_text word.Count = codes "count"
keyword_text word.Number = codes "number"
keyword_text word.Idle = codes "idle"
keyword_text word.Ident = codes "ident"
keyword_text word.Stby = codes "stby"
keyword_text word.Tran = codes "tran"
keyword_text word.Data = codes "data"
keyword_text word.Rcv = codes "rcv"
keyword_text word.Prg = codes "prg"
keyword_text word.Dis = codes "dis"

-- every reserved word
abbrev pub keywords : List Keyword
keywords =
    word.Card ∷ word.Sd ∷ word.Emmc ∷ word.Flags ∷ word.Nums ∷ word.Send ∷ word.Else ∷ word.Recv ∷ word.Reg ∷ word.Give
    ∷ word.Wait ∷ word.Ok ∷ word.Let ∷ word.If ∷ word.Set ∷ word.Clear ∷ word.BusLines ∷ word.PartAccess ∷ word.Loop
    ∷ word.Break ∷ word.Done ∷ word.Fault ∷ word.CsdBlocks ∷ word.ExtBlocks ∷ word.ExtBoot ∷ word.At ∷ word.Block
    ∷ word.Byte ∷ word.By ∷ word.Timeout ∷ word.Answer ∷ word.Clean ∷ word.Ready ∷ word.App ∷ word.Echo ∷ word.OcrReady
    ∷ word.OcrBlock ∷ word.State ∷ word.None ∷ word.Count ∷ word.Number ∷ word.Idle ∷ word.Ident ∷ word.Stby ∷ word.Tran
    ∷ word.Data ∷ word.Rcv ∷ word.Prg ∷ word.Dis ∷ []

-- a piece of text spells the reserved word
abbrev pub is_text : Keyword → List ℕ → Bool
is_text keyword text = bytes_eq (keyword_text keyword) text
