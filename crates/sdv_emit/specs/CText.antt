-- The C TEXT of a table: comments that say what it is, an array of its words, with a comment for each point, and the number
-- of its words.
use Rattle.std.specs.Prelude.{ℕ, suc, ◌+◌, ◌%◌, List, [], ◌∷◌, ◌++◌, take, drop, length, slice_index, flat_map, Bool, false, ◌==◌, ◌||◌, ◌&&◌, nat_le, decimal, if◌then◌else◌}
use Rattle.std.specs.Int.{w32, to_be_bytes, to_le_bytes}
use Rattle.hex.specs.Hex.{encode_lower}
use Rattle.sdv_graph.specs.Graph.{Graph}
use Rattle.sdv_graph.specs.Path.{Action, Point}
use Rattle.sdv_graph.specs.Tree.{Declared}
use Rattle.sdv_table.specs.Table.{header_size}
use Rattle.sdv_telling.specs.Numbered.{numbered}
use Rattle.sdv_telling.specs.Statements.{statement_words}
use Rattle.sdv_emit.specs.declared.array.TheConstants.{PROMISE, SCRIPT, BOUND, COMMANDS, INCLUDES, ARRAY_START, ROWS, ARRAY_END, COUNT, COUNT_IS, DIVIDED_BY, FIRST_WORD}
use Rattle.sdv_emit.specs.declared.points.TheConstants.{POINT, LINE, STATEMENT}
use Rattle.sdv_emit.specs.declared.text.TheConstants.{COMMENT_START, COMMENT_END, ESCAPE}
use Rattle.sdv_emit.specs.declared.words.TheConstants.{HEXADECIMAL_PREFIX, COMMA, LINE_START, SPACE}

abbrev pub Text : Type 0
Text = List ℕ

-- COMMENTS

-- printed characters of ASCII, but for `*`, `?` and `\`
abbrev pub is_plain : (byte : ℕ) → Bool
is_plain byte =
    if (byte == 42) || ((byte == 63) || (byte == 92)) then false else (nat_le 32 byte && nat_le byte 126)

-- They stand for themselves. Any other byte is escaped, so no text ends a comment, breaks a line or is a trigraph.
abbrev pub plain_byte : (byte : ℕ) → Text
plain_byte byte = if is_plain byte then byte ∷ [] else ESCAPE.now ++ encode_lower (byte ∷ [])

abbrev pub plain : Text → Text
plain text = flat_map plain_byte text

abbrev pub comment : (body : Text) → Text
comment body = COMMENT_START.now ++ (plain body ++ COMMENT_END.now)

-- WORDS

-- `0x54564453,`
abbrev pub word_text : (word : ℕ) → Text
word_text word = HEXADECIMAL_PREFIX.now ++ (encode_lower (to_be_bytes w32 word) ++ COMMA.now)

-- eight of them are on a line
abbrev pub gap : (number : ℕ) → Text
gap number = if number % 8 == 0 then LINE_START.now else SPACE.now

abbrev pub spaced_word : (number word : ℕ) → Text
spaced_word number word = gap number ++ word_text word

abbrev pub word_lines : (first : ℕ) → List ℕ → Text
word_lines n [] = []
word_lines n (w ∷ ws) = spaced_word n w ++ word_lines (suc n) ws

-- POINTS: the head word of each, and which statement it is

abbrev pub place_words : (number line : ℕ) → Text
place_words number line = (POINT.now ++ decimal number) ++ (LINE.now ++ decimal line)

-- `point 3, line 7: CMD55`
abbrev pub point_words : Declared → (number line : ℕ) → Action → Text
point_words names number line action = place_words number line ++ (STATEMENT.now ++ statement_words names action)

abbrev pub head_line : (word : ℕ) → (about : Text) → Text
head_line word about = LINE_START.now ++ (word_text word ++ (SPACE.now ++ comment about))

-- `    0x00260370, /* point 3, line 7: CMD55 */`
abbrev pub point_line : Graph → (words : List ℕ) → (number : ℕ) → Point → Text
point_line g words number place =
    head_line (slice_index words (header_size + number))
    (point_words g.names number (slice_index g.lines number) place.action)

-- THE TEXT

abbrev pub title : (file : Text) → (bound : ℕ) → Text
title file bound =
    (SCRIPT.now ++ file) ++ ((BOUND.now ++ decimal bound)
    ++ COMMANDS.now)

-- what is proved of the runs of a script with a certificate, and its premises
abbrev pub promise : Text
promise = PROMISE.now

abbrev pub top : (file : Text) → (bound : ℕ) → Text
top file bound = comment (title file bound) ++ promise

abbrev pub declaration : (name : Text) → Text
declaration name = INCLUDES.now ++ (name ++ ARRAY_START.now)

-- what follows the points
abbrev pub rows_text : (rows : List ℕ) → Text
rows_text rows = ROWS.now ++ (word_lines 0 rows ++ ARRAY_END.now)

abbrev pub array_text : Graph → (words : List ℕ) → Text
array_text g words =
    word_lines 0 (take header_size words) ++ (numbered (point_line g words) 0 g.points
    ++ rows_text (drop (header_size + length g.points) words))

-- `const size_t NAME_words = sizeof NAME / sizeof NAME[0];`, for code that sees the array from another file
abbrev pub count_text : (name : Text) → Text
count_text name =
    COUNT.now ++ (name ++ (COUNT_IS.now ++ (name ++ (DIVIDED_BY.now ++ (name ++ FIRST_WORD.now)))))

-- the words of the table of a graph, in an array of this name
unfoldable pub c_text : (file name : Text) → (bound : ℕ) → Graph → (words : List ℕ) → Text
c_text file name bound g words = (top file bound ++ declaration name) ++ (array_text g words ++ count_text name)

-- BINARY: four bytes a word, the lowest first
abbrev pub little_endian : List ℕ → List ℕ
little_endian words = flat_map (to_le_bytes w32) words
