-- The forms of the cases of a command, one block after the other from the last one on.
use Rattle.std.proofs.Common.{◌≡◌, ℕ, ◌+◌, ◌<◌, ◌≤◌, ◌^◌, max, List, [], ◌∷◌, ◌++◌, map, reverse, Option, Some, None, refl, sym, ap, ◌∙◌, subst, arith, append_assoc, append-nil}
use Rattle.std.proofs.lemmas.List.{map-append, reverse-append}
use Rattle.sdv_graph.specs.Tree.{Statements, Ways, otherwise, way}
use Rattle.sdv_graph.specs.Moves.{statements_moves, ways_moves}
use Rattle.sdv_certify.specs.declared.form.Form.{Form}
use Rattle.sdv_certify.specs.Blocks.{blocks_of}
use Rattle.sdv_certify.specs.Forms.{greatest, greater, either_form, form_statements, form_ways, forms_of_statements, forms_of_ways, full_form, in_full}
use Rattle.sdv_certify.specs.LoopTurns.{StatementsTurn, WaysTurn}
use Rattle.sdv_certify.proofs.FewCommands.{base_at}
use Rattle.sdv_certify.proofs.FormLaws.{either_same}
use Rattle.sdv_graph.proofs.Sizes.{statements_size, ways_size}

-- ONE OF MANY FORMS

either_none : (x : Option Form) → either_form x None ≡ x
either_none None = refl
either_none (Some f) = refl

abbrev form_is : ℕ → List ℕ → Form
form_is base each = record { base = base; each = each }

greatest_assoc : (xs ys zs : List ℕ) → greatest (greatest xs ys) zs ≡ greatest xs (greatest ys zs)
greatest_assoc [] ys zs = refl
greatest_assoc (x ∷ xs) [] zs = refl
greatest_assoc (x ∷ xs) (y ∷ ys) [] = refl
greatest_assoc (x ∷ xs) (y ∷ ys) (z ∷ zs) =
    let e : max (max x y) z ≡ max x (max y z) = omega arith in
    ap (λ v. v ∷ greatest (greatest xs ys) zs) e ∙ ap (λ l. max x (max y z) ∷ l) (greatest_assoc xs ys zs)

greater_assoc : (f g h : Form) → greater (greater f g) h ≡ greater f (greater g h)
greater_assoc f g h =
    let e : max (max f.base g.base) h.base ≡ max f.base (max g.base h.base) = omega arith in
    ap (λ v. form_is v (greatest (greatest f.each g.each) h.each)) e
    ∙ ap (λ l. form_is (max f.base (max g.base h.base)) l) (greatest_assoc f.each g.each h.each)

either_assoc : (x y z : Option Form) → either_form (either_form x y) z ≡ either_form x (either_form y z)
either_assoc None y z = refl
either_assoc (Some f) None z = refl
either_assoc (Some f) (Some g) None = refl
either_assoc (Some f) (Some g) (Some h) = ap Some (greater_assoc f g h)

-- BLOCKS IN A ROW

abbrev pub row_before : List Statements → (after out : Option Form) → Option Form
row_before [] after out = None
row_before (b ∷ bs) after out = either_form (form_statements b after out) (row_before bs after out)

abbrev pub row_forms : List Statements → (after out : Option Form) → List Form
row_forms [] after out = []
row_forms (b ∷ bs) after out = forms_of_statements b after out ++ row_forms bs after out

ways_before : (c : Ways) (after out : Option Form) → row_before (blocks_of c) after out ≡ form_ways c after out
ways_before (otherwise b) after out = either_none (form_statements b after out)
ways_before (way guards b rest) after out = ap (either_form (form_statements b after out)) (ways_before rest after out)

ways_forms : (c : Ways) (after out : Option Form) → row_forms (blocks_of c) after out ≡ forms_of_ways c after out
ways_forms (otherwise b) after out = append-nil (forms_of_statements b after out)
ways_forms (way guards b rest) after out = ap (λ l. forms_of_statements b after out ++ l) (ways_forms rest after out)

before_last : (bs : List Statements) (b : Statements) (after out : Option Form)
    → row_before (bs ++ b ∷ []) after out ≡ either_form (row_before bs after out) (form_statements b after out)
before_last [] b after out = either_none (form_statements b after out)
before_last (d ∷ ds) b after out =
    ap (either_form (form_statements d after out)) (before_last ds b after out)
    ∙ sym (either_assoc (form_statements d after out) (row_before ds after out) (form_statements b after out))

forms_last : (bs : List Statements) (b : Statements) (after out : Option Form)
    → row_forms (bs ++ b ∷ []) after out ≡ row_forms bs after out ++ forms_of_statements b after out
forms_last [] b after out = append-nil (forms_of_statements b after out)
forms_last (d ∷ ds) b after out =
    ap (λ l. forms_of_statements d after out ++ l) (forms_last ds b after out)
    ∙ sym (append_assoc (forms_of_statements d after out) (row_forms ds after out) (forms_of_statements b after out))

-- each block is smaller than a size, its commands can be counted, and its loops have turns
abbrev pub EachFits : (size behind : ℕ) → List Statements → Type 0
EachFits size behind [] = Unit {0}
EachFits size behind (b ∷ bs) = (statements_size b < size) × (statements_moves b + behind < 2 ^ 128) × StatementsTurn b × EachFits size behind bs

pub record BlockFits (size behind : ℕ) (b : Statements) : Type 0 where
  pub small : statements_size b < size
  pub few : statements_moves b + behind < 2 ^ 128
  pub turns : StatementsTurn b

fits_front : (size behind : ℕ) (bs : List Statements) (b : Statements) → EachFits size behind (bs ++ b ∷ []) → EachFits size behind bs
fits_front size behind [] b h = tt
fits_front size behind (d ∷ ds) b h = (h.0, h.1, h.2, fits_front size behind ds b h.3)

fits_last : (size behind : ℕ) (bs : List Statements) (b : Statements) → EachFits size behind (bs ++ b ∷ []) → BlockFits size behind b
fits_last size behind [] b h = record { small = h.0; few = h.1; turns = h.2 }
fits_last size behind (d ∷ ds) b h = fits_last size behind ds b h.3

ways_fit : (size behind : ℕ) (c : Ways) → ways_size c ≤ size → ways_moves c + behind < 2 ^ 128 → WaysTurn c → EachFits size behind (blocks_of c)
ways_fit size behind (otherwise b) s m t = (omega (arith, s), m, t, tt)
ways_fit size behind (way guards b rest) s m t =
    (omega (arith, s), omega (arith, m), t.0, ways_fit size behind rest (omega (arith, s)) (omega (arith, m)) t.1)

-- THE WALK FROM THE LAST BLOCK ON

-- what is left of it
pub record RowLeft (size : ℕ) (after out : Option Form) (all : Ways) (old : List Form) (blocks : List Statements) (before : Option Form)
    (forms : List Form) : Type 0 where
  pub before_is : in_full (either_form (row_before blocks after out) before) ≡ in_full (form_ways all after out)
  pub forms_are : map full_form forms ++ reverse (map full_form (row_forms blocks after out))
      ≡ map full_form old ++ reverse (map full_form (forms_of_ways all after out))
  pub fits : EachFits size (max (base_at after) (base_at out)) blocks

pub row_begins : (size : ℕ) (after out : Option Form) (all : Ways) (old : List Form) (blocks : List Statements) → blocks ≡ blocks_of all → ways_size all ≤ size
    → ways_moves all + max (base_at after) (base_at out) < 2 ^ 128 → WaysTurn all → RowLeft size after out all old blocks None old
row_begins size after out all old blocks e s m t =
    subst (λ bs. RowLeft size after out all old bs None old) (sym e) (record {
      before_is = ap in_full (either_none (row_before (blocks_of all) after out) ∙ ways_before all after out);
      forms_are = ap (λ l. map full_form old ++ reverse (map full_form l)) (ways_forms all after out);
      fits = ways_fit size (max (base_at after) (base_at out)) all s m t;
    })

module _ (size : ℕ) (after out : Option Form) (all : Ways) (old : List Form) (front blocks : List Statements) (b : Statements) (before : Option Form)
    (forms : List Form)
    (is : blocks ≡ front ++ b ∷ []) (left : RowLeft size after out all old blocks before forms) where
  turned : RowLeft size after out all old (front ++ b ∷ []) before forms
  turned = subst (λ bs. RowLeft size after out all old bs before forms) is left

  pub row_fits : BlockFits size (max (base_at after) (base_at out)) b
  row_fits = fits_last size (max (base_at after) (base_at out)) front b turned.fits

  pub row_goes_on : (one next : Option Form) (more : List Form) → in_full one ≡ in_full (form_statements b after out)
      → in_full next ≡ in_full (either_form one before)
      → map full_form more ≡ map full_form forms ++ reverse (map full_form (forms_of_statements b after out)) → RowLeft size after out all old front next more
  row_goes_on one next more e f g =
      let x = row_before front after out in
      let y = form_statements b after out in
      let fs = map full_form (row_forms front after out) in
      let gs = map full_form (forms_of_statements b after out) in
      record {
        before_is =
            either_same x x next (either_form y before) refl (f ∙ either_same one y before before e refl)
            ∙ ap in_full (sym (either_assoc x y before) ∙ ap (λ o. either_form o before) (sym (before_last front b after out)))
            ∙ turned.before_is;
        forms_are =
            ap (λ l. l ++ reverse fs) g ∙ append_assoc (map full_form forms) (reverse gs) (reverse fs)
            ∙ ap (λ l. map full_form forms ++ l) (sym (ap reverse
            (ap (map full_form) (forms_last front b after out) ∙ map-append full_form (row_forms front after out) (forms_of_statements b after out))
            ∙ reverse-append fs gs))
            ∙ turned.forms_are;
        fits = fits_front size (max (base_at after) (base_at out)) front b turned.fits;
      }

pub row_forms_end : (size : ℕ) (after out : Option Form) (all : Ways) (old : List Form) (blocks : List Statements) (before : Option Form) (forms : List Form)
    → blocks ≡ []
    → RowLeft size after out all old blocks before forms → map full_form forms ≡ map full_form old ++ reverse (map full_form (forms_of_ways all after out))
row_forms_end size after out all old blocks before forms e left =
    let l = subst (λ bs. RowLeft size after out all old bs before forms) e left in sym (append-nil (map full_form forms)) ∙ l.forms_are

pub row_before_end : (size : ℕ) (after out : Option Form) (all : Ways) (old : List Form) (blocks : List Statements) (before : Option Form) (forms : List Form)
    → blocks ≡ []
    → RowLeft size after out all old blocks before forms → in_full before ≡ in_full (form_ways all after out)
row_before_end size after out all old blocks before forms e left =
    let l = subst (λ bs. RowLeft size after out all old bs before forms) e left in l.before_is
