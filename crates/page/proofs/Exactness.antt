-- The page layer takes exactly the inputs that describe an order and a tree.
use Rattle.std.proofs.Common.{◌≡◌, ℕ, ◌≤◌, List, length, Ok, Err, Result, sym, refl, ap, ◌∙◌, subst}
use Rattle.tree.specs.declared.line.Row.{Row}
use Rattle.tabbed_text.specs.Fields.{after}
use Rattle.tabbed_text.specs.Questions.{then}
use Rattle.tabbed_text.proofs.Chains.{refused, went, goes}
use Rattle.station_file.specs.Descriptions.{Describes, ReadsExactly}
use Rattle.station_file.specs.declared.faults.StationFault.{StationFault}
use Rattle.page.specs.Faults.{up}
use Rattle.page.specs.Orders.{order_of}
use Rattle.page.specs.Tasks.{DescribesTask, ReadsTaskExactly, DecidesTask}
use Rattle.page.specs.declared.faults.PageFault.{PageFault}
use Rattle.page.specs.declared.order.Order.{Order}
use Rattle.page.proofs.Ordering.{order_read, order_written}

up_ok : {A : Type 0} (r : Result A StationFault) (a : A) → up r ≡ Ok a → r ≡ Ok a
up_ok (Ok x) a e = let p : x ≡ a = cc in ap Ok p
up_ok (Err x) a e = refused _ a (Err x ≡ Ok a) e

up_err : {A B : Type 0} (r : Result A StationFault) (b : B) (f : PageFault) → then (up r) (λ _. Ok b) ≡ Err f → (g : StationFault) × (r ≡ Err g)
up_err (Ok x) b f e = refused f b _ (sym e)
up_err (Err x) b f e = (x, refl)

-- an input that describes an order and a tree has that order and that station file
described_order : (bs : List ℕ) (o : Order) (rows : List Row) (d : DescribesTask bs o rows) → (order_of bs ≡ Ok o) × (d.file ≡ after 10 bs)
described_order bs o rows d =
    let r = order_read o d.file d.limits in
    (ap order_of d.whole ∙ r.0, sym (ap (after 10) d.whole ∙ r.1))

-- where the order is read, the station file after its line decides
module _ (bs : List ℕ) (o : Order) (e : order_of bs ≡ Ok o) (s : Result (Unit {0}) StationFault) (old new : List Row) (exact : ReadsExactly (after 10 bs) s old new) where
  station_accepts : (p : Order) (rows : List Row) → DescribesTask bs p rows → (then (up s) (λ _. Ok o) ≡ Ok p) × (new ≡ rows)
  station_accepts p rows d =
      let r = described_order bs p rows d in
      let is : o ≡ p = cc r.0 in
      let x = exact.accepts rows (subst (λ xs. Describes xs rows) r.1 d.describes) d.ruled (subst (λ xs. length xs ≤ 16384) r.1 d.small) in
      (goes (up s) _ tt (ap up x.0) ∙ ap Ok is, x.1)

  station_described : (p : Order) → then (up s) (λ _. Ok o) ≡ Ok p → DescribesTask bs p new
  station_described p told =
      let w = went (up s) (λ _. Ok o) p told in
      let is : o ≡ p = cc w.next in
      let x = exact.described (up_ok s tt w.was) in
      let r = order_written bs o e in
      subst (λ y. DescribesTask bs y new) is
      (record { file = after 10 bs; whole = r.1; limits = r.0; describes = x.0; ruled = x.1; small = x.2 })

  order_exactly : ReadsTaskExactly bs (then (up s) (λ _. Ok o)) old new
  order_exactly =
      record {
        accepts = station_accepts;
        described = station_described;
        unchanged = λ f told. let x = up_err s o f told in exact.unchanged x.0 x.1;
      }

-- where the order is refused, the input describes none
pub refused_exactly : (bs : List ℕ) (f : PageFault) → order_of bs ≡ Err f → (old : List Row) → ReadsTaskExactly bs (Err f) old old
refused_exactly bs f e old =
    record {
      accepts = λ o rows d. refused f o _ (sym e ∙ (described_order bs o rows d).0);
      described = λ o told. refused f o _ told;
      unchanged = λ g told. refl;
    }

pub decides_task : (bs : List ℕ) (r : Result Order PageFault) → r ≡ order_of bs → DecidesTask bs r
decides_task bs (Ok o) e = record { takes = order_exactly bs o (sym e) (Ok tt); refuses = λ f. order_exactly bs o (sym e) (Err f) }
decides_task bs (Err f) e = refused_exactly bs f (sym e)
