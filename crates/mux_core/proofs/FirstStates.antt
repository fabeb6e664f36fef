-- Queues and carousels before slot 0.
use Rattle.std.specs.Prelude.{ℕ, suc, zero, ◌+◌, ◌<◌, false, replicate, List, [], ◌∷◌, ◌++◌, map, take, length, get_or, Option, Some, None, slice_get, option_map}
use Rattle.std.proofs.Common.{◌≡◌, refl, sym, ◌∙◌, ap, subst, arith}
use Rattle.std.proofs.Math.Seq.{take-suc}
use Rattle.std.proofs.lemmas.List.{map-append, length-replicate, get_or-replicate}
use Rattle.std.proofs.lemmas.List.Elements.{All-get_or}
use Rattle.description_parts.specs.Described.{Described, DescribedStream}
use Rattle.description_parts.specs.Ranges.{IsInRange, IsStream}
use Rattle.description_parts.specs.Tables.{table_kinds, table_count}
use Rattle.description_parts.specs.declared.table_kind.TableKind.{TableKind}
use Rattle.description.proofs.SectionCounts.{sections_law}
use Rattle.description.specs.SubTables.{sub_table_count}
use Rattle.unit_queue.specs.Queues.{Queue, ParametersInRange}
use Rattle.unit_queue.proofs.QueueStates.{first_law}
use Rattle.table_rounds.specs.Carousels.{Carousel}
use Rattle.table_rounds.proofs.CarouselSteps.{first_carousel_holds}
use Rattle.mux_core.specs.Rooms.{room_in}
use Rattle.mux_core.specs.Scheduled.{Scheduled}
use Rattle.mux_core.specs.Histories.{empty_history, parameters_of, owned_stream, table_of}
use Rattle.mux_core.specs.TextChanges.{began_since}
use Rattle.mux_core.specs.MuxStates.{Represents, QueueRepresents, CarouselRepresents}
use Rattle.mux_core.specs.NewMux.{first_queue, first_carousel, first_carousels}
use Rattle.mux_core.specs.declared.room.Room.{Room}
use Rattle.mux_core.proofs.KnownRanges.{parameters_fit, tables_known}

-- One more queue or carousel

pub next_queue : (d : Described) (capacity : Room) (i : ℕ) (queues : List Queue) (s : DescribedStream) → s ≡ get_or d.streams i s → i < length d.streams →
    queues ≡ map (first_queue d capacity) (take i d.streams) →
    queues ++ (first_queue d capacity s ∷ []) ≡ map (first_queue d capacity) (take (i + 1) d.streams)
next_queue d capacity i queues s at lt is =
    ap (λ (qs : List Queue). qs ++ (first_queue d capacity s ∷ [])) is
    ∙ ap (λ (x : DescribedStream). map (first_queue d capacity) (take i d.streams) ++ (first_queue d capacity x ∷ [])) at
    ∙ sym (map-append (first_queue d capacity) (take i d.streams) (get_or d.streams i s ∷ []))
    ∙ sym (ap (map (first_queue d capacity)) (take-suc d.streams i s lt))
    ∙ ap (λ (n : ℕ). map (first_queue d capacity) (take n d.streams)) {x = suc i} {y = i + 1} (omega arith)

pub parameters_here : (d : Described) (i : ℕ) (s : DescribedStream) → IsInRange d → s ≡ get_or d.streams i s → i < length d.streams →
    ParametersInRange (parameters_of d s)
parameters_here d i s ranges at lt = parameters_fit d s ranges (subst IsStream (sym at) (All-get_or IsStream d.streams i s lt ranges.streams))

pub next_carousel : (d : Described) (t n : ℕ) → first_carousels d t n ++ (first_carousel d (t + n) ∷ []) ≡ first_carousels d t (suc n)
unfolding first_carousels
next_carousel d t zero = ap (λ (x : ℕ). first_carousel d x ∷ []) (omega arith)
next_carousel d t (suc n) = ap (λ (l : List Carousel). first_carousel d t ∷ l)
    (ap (λ (x : ℕ). first_carousels d (suc t) n ++ (first_carousel d x ∷ [])) (omega arith) ∙ next_carousel d (suc t) n)

pub carousels_more : (d : Described) (n : ℕ) (carousels : List Carousel) (carousel : Carousel) → carousels ≡ first_carousels d 0 n →
    carousel ≡ first_carousel d n →
    carousels ++ (carousel ∷ []) ≡ first_carousels d 0 (n + 1)
carousels_more d n carousels carousel are is =
    ap (λ (ts : List Carousel). ts ++ (carousel ∷ [])) are
    ∙ ap (λ (x : Carousel). first_carousels d 0 n ++ (x ∷ [])) is
    ∙ ap (λ (m : ℕ). first_carousels d 0 n ++ (first_carousel d m ∷ [])) (omega arith)
    ∙ next_carousel d 0 n
    ∙ ap (λ (m : ℕ). first_carousels d 0 m) (omega arith)

pub carousels_none : (d : Described) → [] ≡ first_carousels d 0 0
unfolding first_carousels
carousels_none d = refl

-- The first queues and carousels represent the empty history

queues_at : (d : Described) (capacity : Room) (k : ℕ) (streams : List DescribedStream) →
    slice_get (map (first_queue d capacity) streams) k ≡ option_map (first_queue d capacity) (slice_get streams k)
queues_at d capacity k [] = refl
queues_at d capacity zero (s ∷ streams) = refl
queues_at d capacity (suc k) (s ∷ streams) = queues_at d capacity k streams

queue_represents : (d : Scheduled) (capacity : Room) (k : ℕ) (s : Option DescribedStream) →
    QueueRepresents d empty_history capacity k (option_map (first_queue d.description capacity) s) s
queue_represents d capacity k (Some s) = first_law (owned_stream d k s) (room_in capacity s)
queue_represents d capacity k None = tt

carousels_at : (d : Described) (t k : ℕ) (kinds : List TableKind) →
    slice_get (first_carousels d t (length kinds)) k ≡ option_map (λ x. first_carousel d (t + k)) (slice_get kinds k)
unfolding first_carousels
carousels_at d t k [] = refl
carousels_at d t zero (x ∷ kinds) = ap (λ (n : ℕ). Some (first_carousel d n)) (omega arith)
carousels_at d t (suc k) (x ∷ kinds) = carousels_at d (suc t) k kinds ∙ ap (λ (n : ℕ). option_map (λ y. first_carousel d n) (slice_get kinds k)) (omega arith)

carousels_here : (d : Described) (k : ℕ) (kinds : List TableKind) →
    slice_get (first_carousels d 0 (length kinds)) k ≡ option_map (λ x. first_carousel d k) (slice_get kinds k)
carousels_here d k kinds = carousels_at d 0 k kinds ∙ ap (λ (n : ℕ). option_map (λ x. first_carousel d n) (slice_get kinds k)) (omega arith)

carousel_represents : (d : Scheduled) (t : ℕ) (kind : Option TableKind) → IsInRange d.description → slice_get (table_kinds d.description) t ≡ kind →
    CarouselRepresents d empty_history t (option_map (λ x. first_carousel d.description t) kind) kind
carousel_represents d t (Some kind) ranges is = first_carousel_holds (table_of d t) ((tables_known sections_law d empty_history d.description ranges tt refl).places t kind is)
carousel_represents d t None ranges is = tt

pub represents_first : (d : Scheduled) (capacity : Room) → IsInRange d.description →
    Represents empty_history (record {
      schedule = d;
      texts = d.description;
      sent = replicate 131 false;
      queues = map (first_queue d.description capacity) d.description.streams;
      carousels = first_carousels d.description 0 (table_count d.description);
      capacity = capacity;
      slots = 0;
    })
unfolding began_since
represents_first d capacity ranges = record {
  written = refl;
  changes = tt;
  made = tt;
  texts = refl;
  sent_size = length-replicate sub_table_count false;
  sent = λ x lt. get_or-replicate 131 x false false lt;
  streams = λ k. subst (λ (q : Option Queue). QueueRepresents d empty_history capacity k q (slice_get d.description.streams k))
      (sym (queues_at d.description capacity k d.description.streams)) (queue_represents d capacity k (slice_get d.description.streams k));
  tables = λ t. subst (λ (x : Option Carousel). CarouselRepresents d empty_history t x (slice_get (table_kinds d.description) t))
      (sym (carousels_here d.description t (table_kinds d.description))) (carousel_represents d t (slice_get (table_kinds d.description) t) ranges refl);
}

pub begins : (d : Scheduled) (queues : List Queue) (carousels : List Carousel) (capacity : Room) → IsInRange d.description →
    queues ≡ map (first_queue d.description capacity) d.description.streams → carousels ≡ first_carousels d.description 0 (table_count d.description) →
    Represents empty_history (record { schedule = d; texts = d.description; sent = replicate 131 false; queues = queues; carousels = carousels; capacity = capacity; slots = 0 })
begins d queues carousels capacity ranges are are_carousels =
    subst (λ (qs : List Queue). Represents empty_history (record { schedule = d; texts = d.description; sent = replicate 131 false; queues = qs; carousels = carousels; capacity = capacity; slots = 0 }))
    (sym are)
    (subst (λ (ts : List Carousel). Represents empty_history
    (record { schedule = d; texts = d.description; sent = replicate 131 false; queues = map (first_queue d.description capacity) d.description.streams; carousels = ts; capacity = capacity; slots = 0 }))
    (sym are_carousels) (represents_first d capacity ranges))
