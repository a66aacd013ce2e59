-- Reading one entry after the other.
use Rattle.std.proofs.Common.{◌≡◌, ℕ, zero, suc, true, false, List, [], ◌∷◌, ◌++◌, refl, ap, append_assoc, Option, Some, None}
use Rattle.std.proofs.lemmas.List.{append-nil}
use Rattle.sdv_text.specs.Fronts.{◌>>=◌}
use Rattle.sdv_graph.specs.Tree.{Declared}
use Rattle.sdv_script.specs.Reading.{Fails, Progress}
use Rattle.sdv_script.specs.declared.fault.Stop.{Stop}
use Rattle.sdv_script.specs.declared.fault.Stop.TheVariants as stop
use Rattle.sdv_driver.specs.Reading.{ends, read_entry, more_entries, read_entries}
use Rattle.sdv_driver.specs.Tree.{Entry}

-- the entries that were read, before those that are still to be read
abbrev pub behind : List Entry → Option (List Entry) → Option (List Entry)
behind es read = read >>= λ rest. Some (es ++ rest)

abbrev Others : Type 0
Others = (earlier : List (List ℕ)) → Progress → Option (List Entry)

pub behind_none : (read : Option (List Entry)) → behind [] read ≡ read
behind_none None = refl
behind_none (Some es) = refl

entries_more : (n m : ℕ) (names : Declared) (earlier : List (List ℕ)) (at : Progress) → n ≡ suc m
    → read_entries n names earlier at ≡ more_entries (read_entries m names) names earlier at
unfolding read_entries
entries_more n m names earlier at same = rw same refl

behind_more : (es : List Entry) (e : Entry) (read : Option (List Entry))
    → behind (es ++ e ∷ []) read ≡ behind es (read >>= λ rest. Some (e ∷ rest))
behind_more es e None = refl
behind_more es e (Some rest) = ap (λ (all : List Entry). Some all) (append_assoc es (e ∷ []) rest)

-- nothing follows
pub behind_ends : (es : List Entry) (n m : ℕ) (names : Declared) (earlier : List (List ℕ)) (at : Progress) → n ≡ suc m
    → ends at.tokens earlier ≡ true → behind es (read_entries n names earlier at) ≡ Some es
behind_ends es n m names earlier at same end =
    rw (entries_more n m names earlier at same, end) (ap (λ (all : List Entry). Some all) (append-nil es))

-- a further entry was read
pub behind_goes_on : (es : List Entry) (e : Entry) (n m : ℕ) (names : Declared) (earlier : List (List ℕ)) (at after : Progress) → n ≡ suc m
    → ends at.tokens earlier ≡ false → read_entry names earlier at ≡ Some (e, after)
    → behind (es ++ e ∷ []) (read_entries m names (earlier ++ e.name ∷ []) after) ≡ behind es (read_entries n names earlier at)
behind_goes_on es e n m names earlier at after same goes_on read =
    rw (entries_more n m names earlier at same, goes_on, read) (behind_more es e (read_entries m names (earlier ++ e.name ∷ []) after))

none_read : (names : Declared) (earlier : List (List ℕ)) (at : Progress) (o : Option (Entry × Progress)) (others : Others) → o ≡ None
    → (o >>= λ e. others (earlier ++ e.0.name ∷ []) e.1 >>= λ rest. Some (e.0 ∷ rest)) ≡ None
none_read names earlier at o others e = rw e refl

-- what is no entry is read as none
pub behind_fails : (stopped : Stop) (es : List Entry) (n m : ℕ) (names : Declared) (earlier : List (List ℕ)) (at : Progress) → n ≡ suc m
    → ends at.tokens earlier ≡ false → Fails stopped (read_entry names earlier at)
    → Fails stopped (behind es (read_entries n names earlier at))
behind_fails stop.Memory es n m names earlier at same goes_on fails = tt
behind_fails (stop.Fault what) es n m names earlier at same goes_on fails =
    rw (entries_more n m names earlier at same, goes_on, fails) refl

-- there is no room for a further entry
pub none_left : (es : List Entry) (n : ℕ) (names : Declared) (earlier : List (List ℕ)) (at : Progress) → n ≡ zero
    → behind es (read_entries n names earlier at) ≡ None
unfolding read_entries
none_left es n names earlier at same = rw same refl
