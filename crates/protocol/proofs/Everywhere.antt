-- The C6 shape of every disk, in the bays or not, along every history with exchanged disks.
use Rattle.std.specs.Prelude.{ℕ, ◌≡◌, Bool, true, ◌≢◌, List}
use Rattle.std.proofs.Common.{sym, ◌∙◌, eq-eqb, ne_eqb}
use Rattle.std.proofs.Math.Path.{ap}
use Rattle.std.proofs.Math.Bool.{true≢false}
use Rattle.std.proofs.Math.Logic.{⊎_elim}
use Rattle.protocol.specs.World.{label, Image, World, Possible, Always, always_after}
use Rattle.protocol.specs.Log.{RecordCodec}
use Rattle.protocol.specs.Label.{Size, Quorum, LabelCodec}
use Rattle.protocol.specs.Host.{Code}
use Rattle.protocol.specs.Program.{Stamps, Medium, Own, creating, starting, logging, storing, labelling, Memory, nothing, idle, doing, program}
use Rattle.protocol.specs.Machine.{Event, View, sure, open_write, kept_write}
use Rattle.protocol.specs.Shape.{ShapeBy, shape_same, ShapesBy}
use Rattle.protocol.specs.Tidy.{top_same}
use Rattle.protocol.specs.Formed.{Current, Standing}
use Rattle.protocol.proofs.Formed.{shaped_off, standing, shaped_host}
use Rattle.protocol.specs.Exchange as Exchange
use Rattle.protocol.specs.Exchange.{Disks, Room, room, noted, exchanged, with_disk, Befalls, Befell}
use Rattle.protocol.specs.Apart.{same_nat}
use Rattle.protocol.specs.Exchanged.{Made, Holds, back, back_other}
use Rattle.protocol.proofs.Exchanged.{made_or_not, back_possible, exchange_simulate}
use Rattle.protocol.specs.Everywhere.{ShapedStock, ShapedAll, Tidy, Tidily}

module _ {X : Type 0} (z : Size) (W : Quorum z.n) (C : LabelCodec X z.n) (K : RecordCodec X) (E : Code X z.n K.c W) (S : Stamps) (R : Medium z W C K E S) (strict : Bool) where
  made_standing : (w : World X) (m : Memory X) (x : Disks X) (p : View X) → Made z W C K E S R w m x p → Standing z W C K E S R strict w m
  made_standing w nothing x p h = h.sane
  made_standing w (idle o) x (sure v) h = (h.0.0, (v, h.0.1))
  made_standing w (idle o) x (open_write v v') h = absurd h.0
  made_standing w (idle o) x (kept_write v') h = absurd h.0
  made_standing w (doing creating l o o') x p h = absurd h
  made_standing w (doing starting l o o') x p h = h.sane
  made_standing w (doing (logging wr) l o o') x p h = h.0.sane
  made_standing w (doing (storing wr) l o o') x p h = h.0.sane
  made_standing w (doing labelling l o o') x p h = h.0.sane

  stands : (w : World X) (m : Memory X) (x : Disks X) (p : View X) → Holds z W C K E S R (room w m x) p → Standing z W C K E S R strict w m
  stands w m x p h = ⊎_elim (λ y. made_standing w m x p y.1) (λ y. standing z W C K E S R strict w m p y.1) (made_or_not z W C K E S R w m x p h)

  noted_stock : (m : Memory X) (x : Disks X) → (ShapedStock z W C K E S R strict) x → (ShapedStock z W C K E S R strict) (noted m x)
  noted_stock nothing x h = h
  noted_stock (idle o) x h = h
  noted_stock (doing k l o o') x h = h

  -- another disk
  module _ (w : World X) (x : Disks X) (d i : ℕ) (g : Image X) (other : i ≢ x.inn d) (left : Possible w g) (stock : (ShapedStock z W C K E S R strict) x) where
    kept : (f : Image X) → Possible (with_disk w d (x.stock i)) f → ShapesBy C strict (back z W C K E S R w x d i g other left f) → ShapesBy C strict f
    unfolding Possible
    kept f q h e n =
        ⊎_elim (λ y. shape_same C strict (x.stock i) f e (λ b. (q (label e b)).0 y) (stock e i n (λ u. other (u ∙ ap x.inn y))))
        (λ y. shape_same C strict (back z W C K E S R w x d i g other left f) f e (λ b. back_other z W C K E S R w x d i g other left f (label e b) y) (h e n)) (same_nat e d)

    put_aside : ShapesBy C strict g → (ShapedStock z W C K E S R strict) (exchanged x d i g)
    put_aside h e j n m = ⊎_elim here there (same_nat e d)
      where
        there : e ≢ d → ShapeBy C strict ((exchanged x d i g).stock j) e
        there y = let q : (exchanged x d i g).inn e ≡ x.inn e = rw (ne_eqb e d y) in shape_same C strict (x.stock j) ((exchanged x d i g).stock j) e (λ b. rw (ne_eqb e d y)) (stock e j n (λ u. m (u ∙ sym q)))

        here : e ≡ d → ShapeBy C strict ((exchanged x d i g).stock j) e
        here y =
            ⊎_elim (λ u. shape_same C strict g ((exchanged x d i g).stock j) e (λ b. rw (eq-eqb e d y, eq-eqb j (x.inn d) u)) (h e n))
            (λ u. shape_same C strict (x.stock j) ((exchanged x d i g).stock j) e (λ b. rw (eq-eqb e d y, ne_eqb j (x.inn d) u)) (stock e j n (λ v. u (v ∙ ap x.inn y)))) (same_nat j (x.inn d))

    off : Always w (ShapesBy C strict) → Always (with_disk w d (x.stock i)) (ShapesBy C strict)
    unfolding Always
    off h f q = kept f q (h (back z W C K E S R w x d i g other left f) (back_possible z W C K E S R w x d i g other left f q))

    on : (o : Own) → o.absent d ≡ true → Always w (Current z W C K E S R strict o) → Always (with_disk w d (x.stock i)) (Current z W C K E S R strict o)
    unfolding Always
    on o a h f q =
        let b = back z W C K E S R w x d i g other left f in
        let c = h b (back_possible z W C K E S R w x d i g other left f q) in
        (kept f q c.0, λ e n p. let y = c.1 e n p in (y.0, y.1, top_same z W C K b f e y.0 (λ s. back_other z W C K E S R w x d i g other left f (label e s) (λ u. true≢false (sym a ∙ (ap o.absent (sym u) ∙ p)))) y.2))

  -- EACH EVENT keeps the shape of every disk
  pub shaped_everywhere : {r r' : Room X} {e : Event X} (b : Befalls z W C K E S R r e r') → (Tidy z W C K E S R strict) b → (p : View X) → Holds z W C K E S R r p → (ShapedAll z W C K E S R strict) r → (ShapedAll z W C K E S R strict) r'
  unfolding Always
  shaped_everywhere (Exchange.power_cut {w = w} {m = m} f q) u p inv h = (always_after (ShapesBy C strict) f (shaped_off z W C K E S R strict w m h.0 f q), h.1)
  shaped_everywhere (Exchange.program_dies {w = w} {m = m}) u p inv h = (shaped_off z W C K E S R strict w m h.0, h.1)
  shaped_everywhere (Exchange.swapped_off {w = w} {x = x} d i g e n q) u p inv h = (off w x d i g n q h.1 h.0, put_aside w x d i g n q h.1 (h.0 g q))
  shaped_everywhere (Exchange.swapped_on {w = w} {o = o} {x = x} d i g a n q) u p inv h = (on w x d i g n q h.1 o u h.0, noted_stock (idle o) (exchanged x d i g) (put_aside w x d i g n q h.1 (h.0 g q).0))
  shaped_everywhere (Exchange.from_host {w = w} {m = m} {x = x} i a) u p inv h = (shaped_host z W C K E S R strict w m i (stands w m x p inv) h.0, noted_stock (program z W C K E S R m w.cur i).0 x h.1)

  -- ANY SEQUENCE OF EVENTS
  pub shaped_everywhere_always : {r r' : Room X} {l : List (Event X)} (b : Befell z W C K E S R r l r') → (Tidily z W C K E S R strict) b → (p : View X) → Holds z W C K E S R r p → (ShapedAll z W C K E S R strict) r → (ShapedAll z W C K E S R strict) r'
  shaped_everywhere_always Exchange.stays u p inv h = h
  shaped_everywhere_always (Exchange.goes x r) u p inv h =
      let a = exchange_simulate z W C K E S R x p inv in
      shaped_everywhere_always r u.1 a.0 a.2 (shaped_everywhere x u.0 p inv h)
