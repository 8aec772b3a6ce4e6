-- An order's line is read as that order, and an order that is read was written in the first line.
use Rattle.std.proofs.Common.{◌≡◌, ℕ, ◌+◌, ◌^◌, ◌<◌, ◌≤◌, false, eqb, List, [], ◌∷◌, ◌++◌, length, Some, None, Ok, Err, ◌≢◌, decimal, Option, sym, refl, ap, ◌∙◌, subst, arith}
use Rattle.std.specs.Option.{ok_or}
use Rattle.std.specs.List.{All}
use Rattle.std.proofs.lemmas.List.Elements.{All-nil, All-cons}
use Rattle.std.proofs.lemmas.Fmt.{length-decimal-le}
use Rattle.std.proofs.lemmas.List.{append_assoc, append_cancel_left, length-append}
use Rattle.std.proofs.lemmas.Bool.{cond-true}
use Rattle.tabbed_text.specs.Fields.{up_to, after, tabbed, fields_of, separates}
use Rattle.tabbed_text.proofs.Chains.{letter_else, refused, went, goes, ok_some, allowed}
use Rattle.tabbed_text.proofs.NextLines.{first_line}
use Rattle.tabbed_text.proofs.Numerals.{number_written, written_number, decimal_unparted}
use Rattle.tabbed_text.proofs.Splitting.{Inner, four_inner, lines_cons, tabbed_pieces}
use Rattle.page.specs.Faults.{page_fault}
use Rattle.page.specs.Orders.{line_within, criterion_of, criterion_field, order_number, order_fields, order_line, order_of}
use Rattle.page.specs.Tasks.{letter, order_words, order_text, OrderOk}
use Rattle.page.specs.declared.faults.PageCause.TheVariants.{NoOrder, OrderField}
use Rattle.page.specs.declared.order.Criterion.{Criterion}
use Rattle.page.specs.declared.order.Criterion.TheVariants.{Price, Rarity, Class, Size}
use Rattle.page.specs.declared.order.Order.{Order}
use Rattle.page.proofs.Heading.{line_whole, within_line}

-- ---- the first line of a text

module _ (fs : List (List ℕ)) (rest : List ℕ) (some : 0 < length fs) (free : All (All Inner) fs) where
  fields_line : fields_of (tabbed fs ++ (10 ∷ rest)) ≡ fs
  fields_line =
      let bs = tabbed fs ++ (10 ∷ rest) in
      let h : 0 < length bs = simp length-append (omega arith) in
      let cut = first_line bs h in
      let made = lines_cons fs rest some free in
      cc

  after_line : after 10 (tabbed fs ++ (10 ∷ rest)) ≡ rest
  after_line =
      let bs = tabbed fs ++ (10 ∷ rest) in
      let whole = line_whole (length (tabbed fs) + 1) bs (within_line (length (tabbed fs) + 1) (tabbed fs) rest (omega arith)) in
      let front = sym (tabbed_pieces (up_to 10 bs)) ∙ ap tabbed fields_line in
      let e = append_cancel_left (tabbed fs) (10 ∷ after 10 bs) (10 ∷ rest) (ap (λ xs. xs ++ (10 ∷ after 10 bs)) (sym front) ∙ sym whole) in
      cc

-- ---- fields

none_some : (k : Criterion) (P : Type 0) → ◌≡◌ {A = Option Criterion} None (Some k) → P
none_some k P e = let z : ◌≡◌ {A = ℕ} 0 1 = cc in let y : ⊥ = omega arith in absurd y

criterion_written : (f : List ℕ) (k : Criterion) → criterion_of f ≡ Some k → f ≡ letter k ∷ []
criterion_written [] k e = none_some k _ e
criterion_written (b ∷ []) k e = ap (λ x. x ∷ [])
    (letter_else letter b Price k _ (eqb b 80) refl e (λ e. letter_else letter b Rarity k _ (eqb b 82) refl e (λ e.
    letter_else letter b Class k _ (eqb b 67) refl e (λ e. letter_else letter b Size k _ (eqb b 83) refl e (λ e. none_some k _ e)))))
criterion_written (b ∷ (d ∷ bs)) k e = none_some k _ e

criterion_read : (k : Criterion) → criterion_field (letter k ∷ []) ≡ Ok k
criterion_read Price = refl
criterion_read Rarity = refl
criterion_read Class = refl
criterion_read Size = refl

number_read : (low high field n : ℕ) → high < 2 ^ 64 → low ≤ n → n ≤ high → order_number low high field (decimal n) ≡ Ok n
number_read low high field n small lo hi = ap (λ x. ok_or x (page_fault 1 field OrderField)) (written_number low high n small lo hi)

number_is : (low high field : ℕ) (bs : List ℕ) (n : ℕ) → high < 2 ^ 64 → order_number low high field bs ≡ Ok n → (bs ≡ decimal n) × (low ≤ n) × (n ≤ high)
number_is low high field bs n small e = number_written low high bs n small (ok_some _ _ n e)

fields_read : (o : Order) → OrderOk o → order_line (order_words o) ≡ Ok o
fields_read o ok =
    goes (order_number 0 10 1 (decimal o.terms.year)) _ o.terms.year (number_read 0 10 1 o.terms.year (omega arith) (omega arith) ok.low_year)
    ∙ goes (order_number 0 200 2 (decimal o.terms.growth)) _ o.terms.growth (number_read 0 200 2 o.terms.growth (omega arith) (omega arith) ok.low_growth)
    ∙ goes (criterion_field (letter o.criterion ∷ [])) _ o.criterion (criterion_read o.criterion)
    ∙ goes (order_number 1 64 4 (decimal o.sets)) _ o.sets (number_read 1 64 4 o.sets (omega arith) ok.some_sets ok.few_sets)

fields_written : (y g l k : List ℕ) (o : Order) → order_fields y g l k ≡ Ok o → OrderOk o × (y ∷ (g ∷ (l ∷ (k ∷ []))) ≡ order_words o)
fields_written y g l k o e =
    let w₁ = went (order_number 0 10 1 y) _ o e in
    let w₂ = went (order_number 0 200 2 g) _ o w₁.next in
    let w₃ = went (criterion_field l) _ o w₂.next in
    let w₄ = went (order_number 1 64 4 k) _ o w₃.next in
    let n₁ = number_is 0 10 1 y w₁.first (omega arith) w₁.was in
    let n₂ = number_is 0 200 2 g w₂.first (omega arith) w₂.was in
    let n₄ = number_is 1 64 4 k w₄.first (omega arith) w₄.was in
    let n₃ = criterion_written l w₃.first (ok_some _ _ w₃.first w₃.was) in
    let is : record { terms = record { year = w₁.first; growth = w₂.first }; criterion = w₃.first; sets = w₄.first } ≡ o = cc w₄.next in
    subst (λ (x : Order). OrderOk x × (y ∷ (g ∷ (l ∷ (k ∷ []))) ≡ order_words x)) is
    (record { low_year = n₁.2; low_growth = n₂.2; some_sets = n₄.1; few_sets = n₄.2 }, cc (n₁.0, n₂.0, n₄.0))

line_written : (fs : List (List ℕ)) (o : Order) → order_line fs ≡ Ok o → OrderOk o × (fs ≡ order_words o)
line_written [] o e = refused _ o _ e
line_written (y ∷ []) o e = refused _ o _ e
line_written (y ∷ (g ∷ [])) o e = refused _ o _ e
line_written (y ∷ (g ∷ (l ∷ []))) o e = refused _ o _ e
line_written (y ∷ (g ∷ (l ∷ (k ∷ [])))) o e = fields_written y g l k o e
line_written (y ∷ (g ∷ (l ∷ (k ∷ (x ∷ xs))))) o e = refused _ o _ e

-- a line of four fields, one after another
pub four_unrolled : (y g l k : List ℕ) (fs more last : List (List ℕ)) → fs ≡ g ∷ more → more ≡ l ∷ last → last ≡ k ∷ []
    → order_line (y ∷ fs) ≡ order_fields y g l k
four_unrolled y g l k fs more last e f h = rw (e, f, h) refl

pub not_four : (y : List ℕ) (fs : List (List ℕ)) → length fs ≢ 3 → order_line (y ∷ fs) ≡ Err (page_fault 1 0 NoOrder)
not_four y [] n = refl
not_four y (g ∷ []) n = refl
not_four y (g ∷ (l ∷ [])) n = refl
not_four y (g ∷ (l ∷ (k ∷ []))) n = absurd (n refl)
not_four y (g ∷ (l ∷ (k ∷ (x ∷ xs)))) n = refl

-- ---- the order line

letter_unparted : (k : Criterion) → separates (letter k) ≡ false
letter_unparted Price = refl
letter_unparted Rarity = refl
letter_unparted Class = refl
letter_unparted Size = refl

words_unparted : (o : Order) → OrderOk o → All (All Inner) (order_words o)
words_unparted o ok =
    four_inner _ _ _ _ (decimal_unparted o.terms.year (omega arith)) (decimal_unparted o.terms.growth (omega arith))
    (All-cons Inner (letter o.criterion) [] (letter_unparted o.criterion) (All-nil Inner)) (decimal_unparted o.sets (omega arith))

words_short : (o : Order) → OrderOk o → length (tabbed (order_words o)) < 32
words_short o ok =
    let y = length-decimal-le 2 o.terms.year (omega arith) (omega arith) (omega arith) in
    let g = length-decimal-le 3 o.terms.growth (omega arith) (omega arith) (omega arith) in
    let k = length-decimal-le 2 o.sets (omega arith) (omega arith) (omega arith) in
    simp length-append (omega arith)

text_line : (o : Order) (file : List ℕ) → order_text o ++ file ≡ tabbed (order_words o) ++ (10 ∷ file)
text_line o file = append_assoc (tabbed (order_words o)) (10 ∷ []) file

pub order_read : (o : Order) (file : List ℕ) → OrderOk o → (order_of (order_text o ++ file) ≡ Ok o) × (after 10 (order_text o ++ file) ≡ file)
order_read o file ok =
    let ws = order_words o in
    let text = text_line o file in
    let free = words_unparted o ok in (
      ap order_of text
          ∙ cond-true _ _ _ (within_line 32 (tabbed ws) file (words_short o ok))
          ∙ ap order_line (fields_line ws file (omega arith) free)
          ∙ fields_read o ok,
      ap (after 10) text ∙ after_line ws file (omega arith) free,
    )

pub order_written : (bs : List ℕ) (o : Order) → order_of bs ≡ Ok o → OrderOk o × (bs ≡ order_text o ++ after 10 bs)
order_written bs o e =
    let p = allowed (line_within 32 bs) _ _ o e in
    let w = line_written (fields_of bs) o p.1 in
    let front = sym (tabbed_pieces (up_to 10 bs)) ∙ ap tabbed w.1 in
    (w.0, line_whole 32 bs p.0 ∙ ap (λ xs. xs ++ (10 ∷ after 10 bs)) front ∙ sym (text_line o (after 10 bs)))
