-- Orders given by tests: one after another is an order again.
use Rattle.std.proofs.Common.{◌≡◌, Bool, true, false, cond, leb, ◌⊎◌, refl, inl, inr, ⊎_elim, arith}
use Rattle.std.proofs.lemmas.Bool.{false≢true}
use Rattle.std.proofs.lemmas.Bool.Decides.{nat_tests}
use Rattle.orders.specs.Orders.{Ranked, Total, lex, by}

pub leb_total : Total leb
leb_total =
    record {
      ranked = record { total = λ a b. grind (arith, nat_tests); transitive = λ a b c p q. grind (arith, nat_tests) };
      antisymmetric = λ a b p q. grind (arith, nat_tests);
    }

pub by_ranked : {E K : Type 0} (f : E → K) (le : K → K → Bool) → Ranked le → Ranked (by f le)
by_ranked f le o = record { total = λ a b. o.total (f a) (f b); transitive = λ a b c. o.transitive (f a) (f b) (f c) }

total_bits : (x y z w : Bool) → (x ≡ true) ⊎ (y ≡ true) → (z ≡ true) ⊎ (w ≡ true) → (cond x (cond y z true) false ≡ true) ⊎ (cond y (cond x w true) false ≡ true)
total_bits true true z w h k = k
total_bits true false z w h k = inl refl
total_bits false true z w h k = inr refl
total_bits false false z w h k = ⊎_elim inl inr h

trans_bits : (ab ba bc cb ac ca x y z : Bool) → (ab ≡ true → bc ≡ true → ac ≡ true) → (bc ≡ true → ca ≡ true → ba ≡ true) → (ca ≡ true → ab ≡ true → cb ≡ true) → (x ≡ true → y ≡ true → z ≡ true) → cond ab (cond ba x true) false ≡ true → cond bc (cond cb y true) false ≡ true → cond ac (cond ca z true) false ≡ true
trans_bits ab ba bc cb ac ca x y z f g h k p q = grind (arith, f, g, h, k)

both_bits : (x y z w : Bool) → cond x (cond y z true) false ≡ true → cond y (cond x w true) false ≡ true → (x ≡ true) × (y ≡ true) × (z ≡ true) × (w ≡ true)
both_bits true true z w h k = (refl, refl, h, k)
both_bits true false z w h k = absurd (false≢true k)
both_bits false y z w h k = absurd (false≢true h)

first_bits : (x y z : Bool) → cond x (cond y z true) false ≡ true → (x ≡ true) × (y ≡ true → z ≡ true)
first_bits true true z h = (refl, λ _. h)
first_bits true false z h = (refl, λ e. absurd (false≢true e))
first_bits false y z h = absurd (false≢true h)

module _ {E : Type 0} (p q : E → E → Bool) where
  pub lex_ranked : Ranked p → Ranked q → Ranked (lex p q)
  lex_ranked o u =
      record {
        total = λ a b. total_bits (p a b) (p b a) (q a b) (q b a) (o.total a b) (u.total a b);
        transitive = λ a b c.
            trans_bits (p a b) (p b a) (p b c) (p c b) (p a c) (p c a) (q a b) (q b c) (q a c) (o.transitive a b c) (o.transitive b c a) (o.transitive c a b) (u.transitive a b c);
      }

  pub lex_first : (a b : E) → lex p q a b ≡ true → p a b ≡ true
  lex_first a b h = (first_bits (p a b) (p b a) (q a b) h).0

  pub lex_then : (a b : E) → lex p q a b ≡ true → p b a ≡ true → q a b ≡ true
  lex_then a b h = (first_bits (p a b) (p b a) (q a b) h).1

  -- two that are each at most the other are so by both
  pub lex_both : (a b : E) → lex p q a b ≡ true → lex p q b a ≡ true → (p a b ≡ true) × (p b a ≡ true) × (q a b ≡ true) × (q b a ≡ true)
  lex_both a b = both_bits (p a b) (p b a) (q a b) (q b a)

  -- what is ranked and then ordered totally is ordered totally
  pub lex_total : Ranked p → Total q → Total (lex p q)
  lex_total o u =
      record {
        ranked = lex_ranked o u.ranked;
        antisymmetric = λ a b h k. let both = lex_both a b h k in u.antisymmetric a b both.2 both.3;
      }

pub same_pair : {A B : Type 0} (a b : A × B) → a.0 ≡ b.0 → a.1 ≡ b.1 → a ≡ b
same_pair (x, y) (z, w) e f = cc

-- by one key and then by another, where the two keys tell any two items apart
module _ {E A B : Type 0} (f : E → A) (g : E → B) (p : A → A → Bool) (q : B → B → Bool) where
  pub keyed_total : Total p → Total q → ((a b : E) → f a ≡ f b → g a ≡ g b → a ≡ b) → Total (lex (by f p) (by g q))
  keyed_total o u same =
      record {
        ranked = lex_ranked (by f p) (by g q) (by_ranked f p o.ranked) (by_ranked g q u.ranked);
        antisymmetric = λ a b h k.
            let (x, y, z, w) = lex_both (by f p) (by g q) a b h k in
            same a b (o.antisymmetric (f a) (f b) x y) (u.antisymmetric (g a) (g b) z w);
      }
