-- The grammar of drivers: for each part of a syntax tree the tokens that it is written as, followed by others.
use Rattle.std.specs.Prelude.{ℕ, List, [], ◌∷◌, Option, Some, None}
use Rattle.sdv_card.specs.declared.state.Partition.{Partition}
use Rattle.sdv_card.specs.Modes.{partition_number}
use Rattle.sdv_graph.specs.Tree.{Declared}
use Rattle.sdv_script.specs.Grammar.{kind_word, list_written, number_name, statements_written}
use Rattle.sdv_script.specs.Tokens.{Token, Key, Name, Number, Mark}
use Rattle.sdv_script.specs.declared.keyword.Keyword.TheVariants as word
use Rattle.sdv_script.specs.declared.token.Sign.TheVariants as sign
use Rattle.sdv_driver.specs.declared.tree.Input.{Input}
use Rattle.sdv_driver.specs.declared.tree.Within.{Within}
use Rattle.sdv_driver.specs.declared.words.TheConstants.{DRIVER, ENTRY, BLOCKS}
use Rattle.sdv_driver.specs.Tree.{Entry, Tree}

-- ["blocks" number]
abbrev pub buffer_written : Option ℕ → List Token → List Token
buffer_written None others = others
buffer_written (Some n) others = Name BLOCKS.now ∷ Number n ∷ others

-- [name ["blocks" number]]
abbrev pub input_written : Declared → Option Input → List Token → List Token
input_written names None others = others
input_written names (Some i) others = number_name names i.place ∷ buffer_written i.blocks others

-- ["part.access" number]
abbrev pub access_written : Option Partition → List Token → List Token
access_written None others = others
access_written (Some p) others = Key word.PartAccess ∷ Number (partition_number p) ∷ others

-- ["+" number]
abbrev pub more_written : Option ℕ → List Token → List Token
more_written None others = others
more_written (Some k) others = Mark sign.Plus ∷ Number k ∷ others

-- ["if" name ["+" number] "<=" name]
abbrev pub within_written : Declared → Option Within → List Token → List Token
within_written names None others = others
within_written names (Some w) others =
    Key word.If ∷ number_name names w.input ∷ more_written w.more (Mark sign.Below ∷ Mark sign.Equals
    ∷ number_name names w.most ∷ others)

-- "entry" name [name ["blocks" number]] ["part.access" number] ["if" ..], before the statements
abbrev pub head_written : Entry → List Token → List Token
head_written e others =
    Name ENTRY.now ∷ Name e.name ∷ input_written e.names e.input (access_written e.partition
    (within_written e.names e.within others))

-- the head, and "{" {stmt} "}"
abbrev pub entry_written : Entry → List Token → List Token
entry_written e others =
    head_written e (Mark sign.OpenBrace ∷ statements_written e.names e.body (Mark sign.CloseBrace ∷ others))

abbrev pub entries_written : List Entry → List Token
entries_written [] = []
entries_written (e ∷ es) = entry_written e (entries_written es)

-- driver = "driver" ("sd" | "emmc") ["flags" name {name}] ["nums" name {name}] entry {entry}
abbrev pub driver_written : Tree → List Token
driver_written d =
    Name DRIVER.now ∷ Key (kind_word d.names.kind) ∷ list_written word.Flags d.names.flags
    (list_written word.Nums d.names.numbers (entries_written d.entries))
