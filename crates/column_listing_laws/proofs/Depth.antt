-- One observation after another: of a base it adds one to the depth, of another byte it changes nothing. Assumes nothing.
use mathlib.Core.Path.{◌≡◌, refl, ◌∙◌, ap}
use mathlib.Core.Bool.{true}
use mathlib.Core.List.{List, [], ◌∷◌, map}
use Prim.Native.Nat.{◌+◌, ◌≤◌}
use native.Mathlib.Omega.{arith}
use borrow.Author.Tests.{lt-leb}
use lib.Dec.{eqb}
use lib.ListN.{length}
use Rattle.words.proofs.Cases.{test}
use Rattle.rate_tables.specs.declared.adjusted.AdjustedProbabilityTables.{AdjustedProbabilityTables}
use Rattle.rate_tables.specs.Adjusted.{adjusted_tables}
use Rattle.tie_rules.specs.Lanes.{no_lane, lane_of_byte}
use Rattle.base_builder.specs.declared.builder.ConsensusBaseBuilder.{ConsensusBaseBuilder}
use Rattle.base_builder.specs.Builder.{full_count, added_by, added}
use Rattle.base_builder.specs.History.{step, run, after}
use Rattle.base_builder_laws.specs.Counted.{CountedObservation, counted_since}
use Rattle.base_builder_laws.proofs.Laws.{laws}
use Rattle.column_file.specs.declared.settings.Settings.{Settings}
use Rattle.column_file.specs.Format.{Observation}
use Rattle.column_file.specs.Places.{columns_size}
use Rattle.column_file.proofs.Files.{columns_inside, file_size}
use Rattle.column_calls.specs.Start.{start_of}
use Rattle.column_calls.specs.Columns.{event_of, builder_of_column, column_call, called_column}
use Rattle.listing_lines.specs.Lines.{depth_of}
use Rattle.column_listing_laws.specs.Depth.{contributing, DepthLaws, FileDepths}

-- counted after those of os
counted_more : (c : List Observation) (os : List CountedObservation) → length os + length c ≤ full_count
    → length (counted_since os (map event_of c)) ≡ length os + length (contributing c)
unfolding counted_since
counted_more [] os h = omega arith
counted_more (o ∷ c) os h =
    test (eqb (lane_of_byte o.base) no_lane)
    (λ e. rw e (counted_more c os (omega arith)))
    (λ e.
    let more = counted_more c (record { at = lane_of_byte o.base; quality = o.quality } ∷ os) (omega arith) in
    rw (e, lt-leb full_count (length os) (omega arith)) (omega (arith, more)))

-- another byte leaves the builder as it was
other_stays : (t : AdjustedProbabilityTables) (o : Observation) (b : ConsensusBaseBuilder) → eqb (lane_of_byte o.base) no_lane ≡ true → step t (event_of o) b ≡ b
unfolding step added added_by
other_stays t o b e = rw e

-- the builder after a column is that after its bases
bases_alone : (t : AdjustedProbabilityTables) (c : List Observation) (b : ConsensusBaseBuilder)
    → run t (map event_of c) b ≡ run t (map event_of (contributing c)) b
unfolding run
bases_alone t [] b = refl
bases_alone t (o ∷ c) b =
    test (eqb (lane_of_byte o.base) no_lane)
    (λ e. ap (run t (map event_of c)) (other_stays t o b e) ∙ rw e (bases_alone t c b))
    (λ e. rw e (bases_alone t c (step t (event_of o) b)))

pub depth_laws : (g : Settings) (c : List Observation) → DepthLaws g c
unfolding builder_of_column column_call called_column after
depth_laws g c =
    let pre = g.error_rate_pre_umi.0 in
    let post = g.error_rate_post_umi.0 in
    record {
      depth = λ h. omega (arith, (laws pre post g.tie_rule (map event_of c)).together, counted_more c [] (omega arith));
      others = rw (bases_alone (adjusted_tables post) c (start_of g));
    }

-- of columns whose bytes are no more than a builder counts
each_depth : (g : Settings) (cs : List (List Observation)) → columns_size cs ≤ full_count
    → map (λ c. depth_of (builder_of_column g c).observations) cs ≡ map (λ c. length (contributing c)) cs
unfolding columns_size
each_depth g [] h = refl
each_depth g (c ∷ cs) h = rw ((depth_laws g c).depth (omega arith), each_depth g cs (omega arith))

pub file_depths : FileDepths
file_depths s f e = each_depth f.settings f.columns (omega (arith, columns_inside s f e, file_size s f e))
