-- The laws of the words that the layers above use.
use Rattle.std.proofs.Common.{◌≡◌, ◌⊎◌, ℕ, ◌+◌, ◌<◌, ◌≤◌, min, refl, sym, ap, ◌∙◌, subst, inl, inr, arith, IsTrue, Result, Ok, Err}
use Rattle.std.specs.Prelude.{IfErr}
use Rattle.std.proofs.lemmas.Bool.{cases_lt}
use Rattle.devices.specs.State.{State, Image, Leaves, current, fresh}
use Rattle.devices.specs.World.{Standing as Device, Goes, GoesOn, now}
use Rattle.devices.proofs.MomentLaws.{Goes-refl}
use Rattle.line_pages.specs.Lines.{Lines}
use Rattle.line_pages.specs.declared.touches.Accesses.{Accesses}
use Rattle.line_pages.specs.declared.stop.Stop.{Stop}
use Rattle.line_pages.specs.declared.stop.Stop.TheVariants.{Nvm, Ssd, Damaged}
use Rattle.flat_store_meaning.proofs.FactsLaws.{current_leaves}
use Rattle.flat_store_laws.specs.ShownPages.{pages_in, committed_in}
use Rattle.flat_store_laws.specs.Steps.{MayLeave}
use Rattle.flat_store_laws.proofs.ImageLaws.{stores_left, stores_chosen}
use Rattle.flat_store_laws.proofs.OrderLaws as order
use Rattle.flat_nvm_layout.specs.Sizes.{sizes_of}
use Rattle.flat_nvm_layout.specs.declared.geometry.Geometry.{Geometry}
use Rattle.flat_nvm_log.specs.declared.log.Log.{Log}
use Rattle.flat_transactions.specs.declared.book.Book.{Book}
use Rattle.flat_transactions.specs.StoreStanding.{Apart, standing_of, book_sizes, reach, Stands, IsReady, IsSteady}
use Rattle.flat_transactions.specs.StoreCalls.{StoreCall, NextWrite, FaultCause, IsNvmFault}
use Rattle.flat_transactions.specs.TakenBack.{AbortCause, StopsFor, IsNvm}
use Rattle.flat_transactions.specs.Order.{Sizes, nvm_lines, Fits, IsOrdered, IsOrderedWith, IsStoreOf}
use Rattle.line_pages.specs.Standing.{IsFault}
use Rattle.flat_transactions.specs.OpenStore.{account, current_lines, committed_lines, LeavesCommitted, LeavesEither, CallsPages, KeepsStore, HasFault, IsCounted, HasAbortCause, IsCountedOrDamage}

-- ---- what is left

-- what one reads of a ready store is a store of its sizes, with the committed lines
pub ready_store : (book : Book) (d : Device) → IsReady book d → IsTrue d.told → IsStoreOf (book_sizes book) (committed_lines d) (current (now d))
ready_store book d ready told = order.open_image (book_sizes book) book.log.start book.log.tail (fresh (current (now d))) (ready.read told).facts (current (now d)) (current_leaves (fresh (current (now d))))

-- how far its log may come is near its tail
pub ready_near : (book : Book) (d : Device) → IsReady book d → reach book ≤ (account book).tail + 1920
ready_near book d ready = let few : book.room ≤ 640 = ready.few in omega (arith, few)

-- it stays ready where the open access ends
pub rested_ready : (book : Book) (accesses : Accesses) (d : Device) → IsReady book d → IsReady (record book { accesses = accesses }) d
rested_ready book accesses d it = record {
  fits = it.fits;
  allowed = it.allowed;
  sized = it.sized;
  room = it.room;
  below = it.below;
  few = it.few;
  begins = it.begins;
  within = it.within;
  closed = λ shut. record { room = (it.closed shut).room; first = (it.closed shut).first };
  read = it.read;
}

-- a steady store is in order with the committed lines, whatever a crash leaves
pub steady_ordered : (book : Book) (d : Device) (n k : ℕ) → IsSteady book d → IsTrue d.told → Fits (book_sizes book) n k → IsOrderedWith (book_sizes book) (committed_lines d) n k (now d)
steady_ordered book d n k steady told fits = order.open_ordered (book_sizes book) book.log.start book.log.tail n k (now d) (steady told).facts fits

-- what is in order fits its devices
pub order_fits : (g : Sizes) (n k : ℕ) (s : State) → IsOrdered g n k s → Fits g n k
order_fits g n k s it = order.ordered_fits g n k s it

-- what one reads is among the images that a crash may leave
pub current_left : (s : State) → Leaves s (current s)
current_left s = current_leaves s

-- whatever a crash leaves of it is a store with the committed lines
pub steady_left : (book : Book) (d : Device) → IsSteady book d → IsTrue d.told → (i : Image) → Leaves (now d) i → IsStoreOf (book_sizes book) (committed_lines d) i
steady_left book d steady told i left = order.open_image (book_sizes book) book.log.start book.log.tail (now d) (steady told).facts i left

-- an image that recovers to some lines is in order with them
pub image_ordered : (g : Sizes) (n k : ℕ) (lines : Lines) (i : Image) → Fits g n k → IsStoreOf g lines i → IsOrderedWith g lines n k (fresh i)
image_ordered g n k lines i fits it = order.image_ordered g n k lines i fits it

module _ (old : Book) (a b : Device) (told : IsTrue a.told) (steady : IsSteady old a) (goes : Goes a b) where
  -- at the beginning of a call
  first : (m : ℕ) → a.clock ≤ m → m ≤ a.clock → (i : Image) → Leaves (b.at m) i → IsStoreOf (book_sizes old) (committed_lines a) i
  first m low high i left =
      let same : m ≡ a.clock = omega arith in
      order.open_image (book_sizes old) old.log.start old.log.tail (now a) (steady told).facts i (subst (λ (s : State). Leaves s i) (goes.earlier m high ∙ ap a.at same) left)

  -- at each moment of a call every image is a store with the committed lines
  pub left_committed : LeavesCommitted old a b → (m : ℕ) → a.clock ≤ m → m ≤ b.clock → (i : Image) → Leaves (b.at m) i → IsStoreOf (book_sizes old) (committed_lines a) i
  left_committed during m low high i left = elim (cases_lt a.clock m) [
    | inl late ↦ stores_left (book_sizes old) b m (committed_lines a) (during told steady m late high) i left
    | inr early ↦ first m low early i left
  ]

  -- or with these or the current ones
  pub left_either : LeavesEither old a b → (m : ℕ) → a.clock ≤ m → m ≤ b.clock → (i : Image) → Leaves (b.at m) i
      → IsStoreOf (book_sizes old) (committed_lines a) i ⊎ IsStoreOf (book_sizes old) (current_lines old a) i
  left_either during m low high i left = elim (cases_lt a.clock m) [
    | inl late ↦ stores_chosen (book_sizes old) b m (committed_lines a) (current_lines old a) (during told steady m late high) i left
    | inr early ↦ inl (first m low early i left)
  ]

-- ---- a call that leaves the devices

module _ (book : Book) (old new : Device) (goes : GoesOn old new) (same : IsTrue old.told → now new ≡ now old) where
  told_before : IsTrue new.told → IsTrue old.told
  told_before told = subst IsTrue goes.told told

  pub ready_still : IsReady book old → IsReady book new
  ready_still it = record {
    fits = subst (λ (n : ℕ). nvm_lines (book_sizes book) ≤ n) (sym goes.lines) it.fits;
    allowed = it.allowed;
    sized = it.sized;
    room = it.room;
    below = it.below;
    few = it.few;
    begins = it.begins;
    within = it.within;
    closed = it.closed;
    read = λ told. subst (λ (x : State). Stands (book_sizes book) book.log.start book.log.tail book.first (fresh (current x))) (sym (same (told_before told))) (it.read (told_before told));
  }

  pub steady_still : IsSteady book old → IsSteady book new
  steady_still it = λ told. subst (λ (x : State). Stands (book_sizes book) book.log.start book.log.tail book.first x) (sym (same (told_before told))) (it (told_before told))

-- and its lines
pub lines_still : (book : Book) (old new : Device) → now new ≡ now old → current_lines book new ≡ current_lines book old
lines_still book old new same = ap (λ (s : State). pages_in (book_sizes book) s) same

pub committed_still : (old new : Device) → now new ≡ now old → committed_lines new ≡ committed_lines old
committed_still old new same = ap committed_in same

-- ---- calls of pages

module _ {book_name device_name since book_name_after device_name_after since_after : ℕ} (old new : Book) (a b : Device)
    (call : CallsPages old a book_name device_name since new b book_name_after device_name_after since_after) (begun : since ≡ a.clock) where
  same_apart : (standing_of new b book_name_after device_name_after since_after).apart ≡ (standing_of old a book_name device_name since).apart
  same_apart = call.apart

  same_geometry : new.log.geometry ≡ old.log.geometry
  same_geometry = ap (λ (x : Apart). x.geometry) same_apart

  earlier_is : (m : ℕ) → m ≤ a.clock → b.at m ≡ a.at m
  earlier_is m early =
      let same_since : since_after ≡ since = ap (λ (x : Apart). x.since) same_apart in
      let in_b : min m since_after ≡ m = omega (arith, same_since, begun, early) in
      let in_a : min m since ≡ m = omega (arith, begun, early) in
      sym (ap b.at in_b) ∙ ap (λ (x : Apart). x.past m) same_apart ∙ ap a.at in_a

  goes_by : Goes a b
  goes_by = record {
    lines = ap (λ (x : Apart). x.lines) same_apart;
    blocks = ap (λ (x : Apart). x.blocks) same_apart;
    told = ap (λ (x : Apart). x.told) same_apart;
    honest = ap (λ (x : Apart). x.honest) same_apart;
    outside = ap (λ (x : Apart). x.outside) same_apart;
    clock = call.clock;
    earlier = earlier_is;
    nvm_faults = call.nvm_faults;
    ssd_faults = call.ssd_faults;
    block_reads = let same : b.block_reads ≡ a.block_reads = ap (λ (x : Apart). x.block_reads) same_apart in omega (arith, same);
  }

  -- what such a call keeps, where the store was put over its device just before
  pub pages_keep : KeepsStore old a new b
  pages_keep = record {
    sizes = ap (λ (x : Geometry). sizes_of x) same_geometry;
    goes = goes_by;
    is_open = ap (λ (x : Apart). x.is_open) same_apart;
    accepted = ap (λ (x : Apart). x.accepted) same_apart;
    start = ap (λ (x : Apart). x.start) same_apart;
    reach_is = ap (λ (x : Apart). x.reach) same_apart;
    committed = λ told. call.committed told;
    during = λ told steady m low high lines left. call.during told steady m low high lines (subst (λ (x : Geometry). MayLeave (sizes_of x) b m lines) (sym same_geometry) left);
  }

-- ---- calls that begin and end transactions

pub call_sizes : {Recovers : Lines → Type 0} (old : Book) (a : Device) (new : Book) (b : Device) → StoreCall Recovers old a new b → book_sizes new ≡ book_sizes old
call_sizes old a new b call = ap (λ (x : Geometry). sizes_of x) call.geometry

-- one that does nothing
pub still_call : (book : Book) (d : Device) → StoreCall (λ lines. lines ≡ committed_lines d) book d book d
still_call book d = record {
  geometry = refl;
  accesses = refl;
  goes = Goes-refl d;
  block_reads = refl;
  during = λ told steady m low high lines left. absurd (omega (arith, low, high));
  held = λ told steady m low high. absurd (omega (arith, low, high));
}

-- the next write of a transaction leaves the sizes, all lines and the log
pub next_sizes : (old new : Book) → NextWrite old new → book_sizes new ≡ book_sizes old
next_sizes old new next = ap (λ (x : Log). sizes_of x.geometry) next.log

pub next_lines : (old new : Book) (d : Device) → NextWrite old new → current_lines new d ≡ current_lines old d
next_lines old new d next = ap (λ (g : Sizes). pages_in g (now d)) (next_sizes old new next)

pub next_tail : (old new : Book) → NextWrite old new → (account new).tail ≡ (account old).tail
next_tail old new next = ap (λ (x : Log). x.tail) next.log

-- ---- causes

counted : (a b : Device) (why : Stop) → IsNvmFault a b why → IsCounted a b why
counted a b Nvm is = is
counted a b Ssd is = absurd is
counted a b (Damaged kept) is = absurd is

pub has_fault : {T : Type 0} (a b : Device) (r : Result T Stop) → FaultCause a b r → HasFault a b r
has_fault a b (Ok v) it = record { failed = tt; nvm = it.nvm; ssd = it.ssd }
has_fault a b (Err why) it = record { failed = counted a b why it.failed; nvm = tt; ssd = tt }

counted_or_damage : (book : Book) (a b : Device) (why : Stop) → StopsFor (book_sizes book) book.log.start book.log.tail a b why → IsCountedOrDamage book a b why
counted_or_damage book a b Nvm is = is
counted_or_damage book a b Ssd is = absurd is
counted_or_damage book a b (Damaged kept) is = is

pub has_abort_cause : {T : Type 0} (book : Book) (a b : Device) (r : Result T Stop) → AbortCause (book_sizes book) book.log.start book.log.tail a b r → HasAbortCause book a b r
has_abort_cause book a b (Ok v) it = record { failed = tt; nvm = it.nvm; ssd = it.ssd }
has_abort_cause book a b (Err why) it = record { failed = counted_or_damage book a b why it.failed; nvm = tt; ssd = tt }

pub fault_alone : {T : Type 0} (r : Result T Stop) → IfErr r IsNvm → IfErr r IsFault
fault_alone (Ok v) is = tt
fault_alone (Err why) is = subst IsFault (sym is) tt
