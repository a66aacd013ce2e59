-- Reading a driver's tokens from left to right: the tree that they have; none where they are no driver.
use Rattle.std.specs.Prelude.{ℕ, zero, suc, List, [], ◌∷◌, ◌++◌, length, Bool, true, false, ◌&&◌, ◌==◌, nat_lt, Option, Some, None, if◌then◌else◌}
use Rattle.std.specs.Str.{bytes_eq}
use Rattle.sdv_text.specs.Fronts.{◌>>=◌}
use Rattle.sdv_registers.specs.declared.kind.Kind.{Kind}
use Rattle.sdv_card.specs.declared.state.Partition.{Partition}
use Rattle.sdv_graph.specs.Tree.{Declared, Statements}
use Rattle.sdv_script.specs.Commands.{has_partitions}
use Rattle.sdv_script.specs.Reading.{Read, Reading, Progress, progress_to, after_open, after_close, read_kind, read_figure, read_count, read_number_name, read_partition, read_statements, start}
use Rattle.sdv_script.specs.Rules.{max_bytes, max_flags, max_numbers, statements_fall}
use Rattle.sdv_script.specs.Tokens.{Token, Key, Name, Mark}
use Rattle.sdv_script.specs.declared.keyword.Keyword.TheVariants as word
use Rattle.sdv_script.specs.declared.token.Sign.TheVariants as sign
use Rattle.sdv_driver.specs.declared.reading.TheConstants.{MAX_ENTRIES}
use Rattle.sdv_driver.specs.declared.tree.Input.{Input}
use Rattle.sdv_driver.specs.declared.tree.Within.{Within}
use Rattle.sdv_driver.specs.declared.words.TheConstants.{DRIVER, ENTRY, BLOCKS}
use Rattle.sdv_driver.specs.Names.{is_new, with_number}
use Rattle.sdv_driver.specs.Rules.{entries_fit}
use Rattle.sdv_driver.specs.Tree.{Entry, Tree}
use Rattle.sdv_driver.specs.Words.{after_word}

-- NAMES

abbrev pub read_new : (earlier others : List (List ℕ)) → (limit : ℕ) → List Token → Read (List ℕ)
read_new earlier others limit (Name n ∷ ts) = if is_new earlier others limit n then Some (n, ts) else None
read_new earlier others limit ts = None

-- further names, after one or more that were read; `entry` ends the list
abbrev pub read_names : (earlier names : List (List ℕ)) → (limit : ℕ) → List Token → Read (List (List ℕ))
read_names earlier names limit (Name n ∷ ts) =
    if bytes_eq n ENTRY.now then Some (names, Name n ∷ ts)
    else (if is_new earlier names limit n then read_names earlier (names ++ n ∷ []) limit ts else None)
read_names earlier names limit ts = Some (names, ts)

abbrev pub read_list : (earlier : List (List ℕ)) → (limit : ℕ) → List Token → Read (List (List ℕ))
read_list earlier limit ts = read_new earlier [] limit ts >>= λ n. read_names earlier (n.0 ∷ []) limit n.1

abbrev pub read_flags : List Token → Read (List (List ℕ))
read_flags (Key word.Flags ∷ ts) = read_list [] max_flags ts
read_flags ts = Some ([], ts)

abbrev pub read_numbers : (flags : List (List ℕ)) → List Token → Read (List (List ℕ))
read_numbers flags (Key word.Nums ∷ ts) = read_list flags max_numbers ts
read_numbers flags ts = Some ([], ts)

abbrev pub read_declared : List Token → Read Declared
read_declared ts =
    read_kind ts >>= λ kind. read_flags kind.1 >>= λ flags. read_numbers flags.0 flags.1 >>= λ numbers.
    Some (record { kind = kind.0; flags = flags.0; numbers = numbers.0 }, numbers.1)

-- THE HEADS OF ENTRIES

abbrev pub buffer_after : List Token → Option (List Token) → Read (Option ℕ)
buffer_after ts None = Some (None, ts)
buffer_after ts (Some rest) = read_count rest >>= λ n. Some (Some n.0, n.1)

-- the blocks of the buffer, if there is one
abbrev pub read_buffer : List Token → Read (Option ℕ)
read_buffer ts = buffer_after ts (after_word BLOCKS.now ts)

abbrev pub input_with : Declared → List ℕ → Option ℕ → Declared × Option Input
input_with names n blocks = (with_number names n, Some (record { place = length names.numbers; blocks = blocks }))

-- the names with the input, and the input, if there is one
abbrev pub read_input : Declared → List Token → Read (Declared × Option Input)
read_input names (Name n ∷ ts) =
    read_new names.flags names.numbers max_numbers (Name n ∷ ts) >>= λ x. read_buffer x.1 >>= λ b.
    Some (input_with names x.0 b.0, b.1)
read_input names ts = Some ((names, None), ts)

-- the partition, if one is named
abbrev pub read_access : Kind → List Token → Read (Option Partition)
read_access k (Key word.PartAccess ∷ ts) =
    if has_partitions k then (read_partition ts >>= λ p. Some (Some p.0, p.1)) else None
read_access k ts = Some (None, ts)

-- what is added, if something is
abbrev pub read_more : List Token → Read (Option ℕ)
read_more (Mark sign.Plus ∷ ts) = read_figure ts >>= λ k. Some (Some k.0, k.1)
read_more ts = Some (None, ts)

-- "<" "="
abbrev pub after_at_most : List Token → Option (List Token)
after_at_most (Mark sign.Below ∷ Mark sign.Equals ∷ ts) = Some ts
after_at_most ts = None

abbrev pub within_with : (input : ℕ) → (more : Option ℕ) → ℕ × List Token → Read Within
within_with input more y =
    if y.0 == input then None else Some (record { input = input; more = more; most = y.0 }, y.1)

abbrev pub read_at_most : Declared → (input : ℕ) → List Token → Read Within
read_at_most names input ts =
    read_number_name names ts >>= λ x. if x.0 == input
    then (read_more x.1 >>= λ k. after_at_most k.1 >>= λ ts1. read_number_name names ts1 >>= λ y. within_with input k.0 y)
    else None

-- when a call is allowed, if an entry with an input says so
abbrev pub read_within : Declared → Option Input → List Token → Read (Option Within)
read_within names (Some i) (Key word.If ∷ ts) = read_at_most names i.place ts >>= λ w. Some (Some w.0, w.1)
read_within names i ts = Some (None, ts)

pub record Head : Type 0 where
  pub name : List ℕ
  pub names : Declared
  pub input : Option Input
  pub partition : Option Partition
  pub within : Option Within

abbrev pub read_head : Declared → (earlier : List (List ℕ)) → List Token → Read Head
read_head names earlier ts =
    after_word ENTRY.now ts >>= λ ts1. read_new [] earlier MAX_ENTRIES ts1 >>= λ n. read_input names n.1 >>= λ i.
    read_access i.0.0.kind i.1 >>= λ p. read_within i.0.0 i.0.1 p.1 >>= λ w.
    Some (record { name = n.0; names = i.0.0; input = i.0.1; partition = p.0; within = w.0 }, w.1)

-- ENTRIES

abbrev pub body_if : Statements → Progress → Reading Statements
body_if body at = if statements_fall body then None else Some (body, at)

-- "{" {stmt} "}", through which no run falls
abbrev pub read_body : Declared → Progress → Reading Statements
read_body names at =
    after_open start at.tokens >>= λ o. read_statements max_bytes names start (progress_to o.1 at.begun) >>= λ b.
    after_close b.1.tokens >>= λ ts. body_if b.0 (progress_to ts b.1.begun)

abbrev pub entry_with : Head → Statements → Entry
entry_with head body = record {
  name = head.name;
  names = head.names;
  input = head.input;
  partition = head.partition;
  within = head.within;
  body = body;
}

abbrev pub read_entry : Declared → (earlier : List (List ℕ)) → Progress → Reading Entry
read_entry names earlier at =
    read_head names earlier at.tokens >>= λ h. read_body h.0.names (progress_to h.1 at.begun) >>= λ b.
    Some (entry_with h.0 b.0, b.1)

abbrev pub is_end : List Token → Bool
is_end [] = true
is_end ts = false

-- nothing stands here, behind one entry or more
abbrev pub ends : List Token → (earlier : List (List ℕ)) → Bool
ends ts earlier = is_end ts && nat_lt 0 (length earlier)

abbrev pub more_entries : (others : (earlier : List (List ℕ)) → Progress → Option (List Entry)) → Declared
    → (earlier : List (List ℕ)) → Progress → Option (List Entry)
more_entries others names earlier at =
    if ends at.tokens earlier then Some []
    else (read_entry names earlier at >>= λ e. others (earlier ++ e.0.name ∷ []) e.1 >>= λ rest. Some (e.0 ∷ rest))

-- entries up to the end, so many at most
unfoldable pub read_entries : ℕ → Declared → (earlier : List (List ℕ)) → Progress → Option (List Entry)
read_entries zero names earlier at = None
read_entries (suc left) names earlier at = more_entries (read_entries left names) names earlier at

abbrev pub read_all_entries : Declared → List Token → Option (List Entry)
read_all_entries names ts = read_entries (suc MAX_ENTRIES) names [] (progress_to ts 0)

-- DRIVERS

abbrev pub tree_if : Declared → List Entry → Option Tree
tree_if names entries = if entries_fit true entries then Some (record { names = names; entries = entries }) else None

unfoldable pub read_driver : List Token → Option Tree
read_driver ts =
    after_word DRIVER.now ts >>= λ ts1. read_declared ts1 >>= λ names. read_all_entries names.0 names.1
    >>= λ entries. tree_if names.0 entries
