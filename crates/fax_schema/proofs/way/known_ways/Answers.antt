use Rattle.std.proofs.Common.{[], ◌∷◌, inl, inr, arith, refl}
use Rattle.fax_schema.specs.Schema.{bare_tables, bare_with_calls, core_tables, first_bare, first_bare_calls, first_core, first_older_core, second_bare, second_bare_calls, second_core}
use Rattle.fax_schema.specs.Way.{Leads}
use Rattle.fax_schema.specs.declared.way.Step.TheVariants.{CreateSecond, CreateThird, CreateIndexes}
use Rattle.fax_schema.proofs.way.known_ways.Goals as goal

-- the steps of the upgrades from the tables of each version on
from_bare : Leads (CreateIndexes ∷ []) bare_tables core_tables
from_bare = (core_tables, inl refl, refl)

from_second : Leads (CreateThird ∷ CreateIndexes ∷ []) second_bare core_tables
from_second = (bare_tables, inl refl, from_bare)

from_first : Leads (CreateSecond ∷ CreateThird ∷ CreateIndexes ∷ []) first_bare core_tables
from_first = (second_bare, inl refl, from_second)

pub returns-clause-ways : goal.returns-clause-ways
returns-clause-ways c = (
  record { some = omega arith; between = core_tables; loses = (core_tables, inl refl, refl); gains = refl },
  (
    record { some = omega arith; between = core_tables; loses = refl; gains = refl },
    (
      record { some = omega arith; between = bare_tables; loses = refl; gains = from_bare },
      (
        record { some = omega arith; between = bare_tables; loses = (bare_tables, inr (inl refl), refl); gains = from_bare },
        (
          record { some = omega arith; between = bare_tables; loses = (bare_with_calls, inl refl, (bare_tables, inr (inl refl), refl)); gains = from_bare },
          (
            record { some = omega arith; between = second_bare; loses = (second_core, inr (inr (inl refl)), (second_bare, inr (inl refl), refl)); gains = from_second },
            (
              record { some = omega arith; between = second_bare; loses = (second_bare, inr (inl refl), refl); gains = from_second },
              (
                record { some = omega arith; between = second_bare; loses = refl; gains = from_second },
                (
                  record { some = omega arith; between = second_bare; loses = (second_bare, inr (inr (inr (inl refl))), refl); gains = from_second },
                  (
                    record { some = omega arith; between = second_bare; loses = (second_bare_calls, inl refl, (second_bare, inr (inr (inr (inl refl))), refl)); gains = from_second },
                    (
                      record { some = omega arith; between = first_bare; loses = (first_core, inr (inr (inr (inr (inl refl)))), (first_bare, inr (inr (inr (inr (inl refl)))), refl)); gains = from_first },
                      (
                        record { some = omega arith; between = first_bare; loses = (first_older_core, inr (inr (inr (inr (inr (inl refl))))), (first_bare, inr (inr (inr (inr (inr (inl refl))))), refl)); gains = from_first },
                        (
                          record { some = omega arith; between = first_bare; loses = (first_bare, inr (inr (inr (inr (inl refl)))), refl); gains = from_first },
                          (
                            record { some = omega arith; between = first_bare; loses = (first_bare, inr (inr (inr (inr (inr (inl refl))))), refl); gains = from_first },
                            (
                              record { some = omega arith; between = first_bare; loses = refl; gains = from_first },
                              (
                                record { some = omega arith; between = first_bare; loses = (first_bare, inr (inr (inr (inr (inr (inr (inl refl)))))), refl); gains = from_first },
                                (
                                  record { some = omega arith; between = first_bare; loses = (first_bare_calls, inr (inr (inl refl)), (first_bare, inr (inr (inr (inr (inr (inr (inl refl)))))), refl)); gains = from_first },
                                  (record { some = omega arith; between = first_bare; loses = (first_bare_calls, inr (inr (inr (inl refl))), (first_bare, inr (inr (inr (inr (inr (inr (inl refl)))))), refl)); gains = from_first }, tt),
                                ),
                              ),
                            ),
                          ),
                        ),
                      ),
                    ),
                  ),
                ),
              ),
            ),
          ),
        ),
      ),
    ),
  ),
)
