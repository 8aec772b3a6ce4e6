-- A chain of questions that ends well: every question on the way was answered well.
use Rattle.std.proofs.Common.{◌≡◌, ℕ, Bool, true, false, cond, eqb, Some, None, Ok, Err, Option, Result, refl, ap, ◌∙◌}
use Rattle.std.proofs.lemmas.Bool.{eqb-true}
use Rattle.std.specs.Option.{ok_or}
use Rattle.tabbed_text.specs.Questions.{then}

-- a refusal is no answer
pub refused : {A E : Type 0} (x : E) (a : A) (P : Type 0) → ◌≡◌ {A = Result A E} (Err x) (Ok a) → P
refused x a P e = cc

-- the answer of the first question, and what it led to
pub record Went {A B E : Type 0} (r : Result A E) (k : A → Result B E) (b : B) : Type 0 where
  pub first : A
  pub was : r ≡ Ok first
  pub next : k first ≡ Ok b

pub went : {A B E : Type 0} (r : Result A E) (k : A → Result B E) (b : B) → then r k ≡ Ok b → Went r k b
went (Ok a) k b e = record { first = a; was = refl; next = e }
went (Err x) k b e = refused x b (Went (Err x) k b) e

-- where the first question is answered, the chain goes on with its answer
pub goes : {A B E : Type 0} (r : Result A E) (k : A → Result B E) (a : A) → r ≡ Ok a → then r k ≡ k a
goes r k a e = ap (λ x. then x k) e

pub ok_some : {A E : Type 0} (o : Option A) (f : E) (a : A) → ok_or o f ≡ Ok a → o ≡ Some a
ok_some None f a e = refused f a (None ≡ Some a) e
ok_some (Some x) f a e = let p : x ≡ a = cc in ap Some p

pub cond_some : {A : Type 0} (b : Bool) (x a : A) → cond b (Some x) None ≡ Some a → (b ≡ true) × (x ≡ a)
cond_some true x a e = (refl, cc)
cond_some false x a e = cc

pub cond_none : {A : Type 0} (b : Bool) (x : A) → cond b (Some x) None ≡ None → b ≡ false
cond_none true x e = cc
cond_none false x e = refl

-- a question whose no is asked for first, and one whose yes is
pub not_refused : {A E : Type 0} (b : Bool) (x : E) (k : Result A E) (a : A) → cond b (Err x) k ≡ Ok a → (b ≡ false) × (k ≡ Ok a)
not_refused true x k a e = refused x a ((true ≡ false) × (k ≡ Ok a)) e
not_refused false x k a e = (refl, e)

pub allowed : {A E : Type 0} (b : Bool) (x : E) (k : Result A E) (a : A) → cond b k (Err x) ≡ Ok a → (b ≡ true) × (k ≡ Ok a)
allowed true x k a e = (refl, e)
allowed false x k a e = refused x a ((false ≡ true) × (k ≡ Ok a)) e

-- the letters are tried one after another; `letter` gives that of each kind
pub letter_else : {K : Type 0} (letter : K → ℕ) (b : ℕ) (x k : K) (rest : Option K) (t : Bool) → eqb b (letter x) ≡ t → cond t (Some x) rest ≡ Some k → (rest ≡ Some k → b ≡ letter k) → b ≡ letter k
letter_else letter b x k rest true t e more = let is : x ≡ k = cc in eqb-true b (letter x) t ∙ ap letter is
letter_else letter b x k rest false t e more = more e
