-- Why there is no solid or no grid is the fault of opening.
use Rattle.std.proofs.Common.{◌≡◌, ◌⊎◌, List, inl, inr, refl, subst, sym}
use Rattle.geometry.specs.Facet.{Facet}
use Rattle.mesh_weld.specs.Balance.{IsBalanced}
use Rattle.mesh_weld.specs.Solid.{solid_of}
use Rattle.raster.specs.declared.grid.GridFault.{GridFault}
use Rattle.part_on_screen.specs.declared.screen_fault.ScreenFault.{ScreenFault}
use Rattle.layer_session.specs.Place.{IsInReach, IsNoGridAt, IsNoSolidAt, placed}
use Rattle.layer_session.specs.Session.{Input, IsOpenFault, IsReadAs}
use Rattle.layer_session.specs.Setup.{HasSteps}
use Rattle.layer_session.specs.declared.place.Place.{Place}
use Rattle.layer_session.specs.declared.place.Place.TheVariants as place
use Rattle.layer_session.specs.declared.session_fault.SessionFault.{SessionFault}
use Rattle.layer_session.specs.declared.session_fault.SessionFault.TheVariants as fault
use Rattle.layer_session.specs.declared.setup.Setup.{Setup}

no-solid-told : (setup : Setup) (input : Input) (facets : List Facet) (f : SessionFault) → HasSteps setup → IsReadAs setup input facets
    → IsNoSolidAt setup.place facets f → IsOpenFault setup input f
no-solid-told setup input facets f range reads (inl (e, out)) =
    subst (λ (x : SessionFault). IsOpenFault setup input x) (sym e) (range, inl (facets, reads, inl (refl, out)))
no-solid-told setup input facets f range reads (inr (reach, (from, to, there, back, e, o))) =
    subst (λ (x : SessionFault). IsOpenFault setup input x) (sym e) (range, (facets, reads, inr (reach, (from, to, there, back, refl, o))))

pub memory-or-no-solid-told : (setup : Setup) (input : Input) (facets : List Facet) (f : SessionFault) → HasSteps setup → IsReadAs setup input facets
    → (f ≡ fault.Memory) ⊎ IsNoSolidAt setup.place facets f → IsOpenFault setup input f
memory-or-no-solid-told setup input facets f range reads (inl e) = subst (λ (x : SessionFault). IsOpenFault setup input x) (sym e) tt
memory-or-no-solid-told setup input facets f range reads (inr bad) = no-solid-told setup input facets f range reads bad

-- the fault of a grid, or of a screen
abbrev GridKind : SessionFault → Type 0
GridKind f = ((cause : GridFault) × (f ≡ fault.Grid cause)) ⊎ ((cause : ScreenFault) × (f ≡ fault.Screen cause))

kind : (p : Place) (layer : _) (facets : List Facet) (f : SessionFault) → IsNoGridAt p layer facets f → GridKind f
kind (place.Grid pitch placing) layer facets f (cause, e, bad) = inl (cause, e)
kind (place.Screen s) layer facets f (cause, e, bad) = inr (cause, e)

pub no-grid-told : (setup : Setup) (input : Input) (facets : List Facet) (f : SessionFault) → HasSteps setup → IsReadAs setup input facets
    → IsInReach setup.place facets → IsBalanced (placed setup.place facets) → IsNoGridAt setup.place setup.layer (solid_of (placed setup.place facets)).facets f
    → IsOpenFault setup input f
no-grid-told setup input facets f range reads reach closed bad = by (kind setup.place setup.layer (solid_of (placed setup.place facets)).facets f bad)
  where
    same : (g : SessionFault) → f ≡ g → IsNoGridAt setup.place setup.layer (solid_of (placed setup.place facets)).facets g
    same g e = subst (λ (x : SessionFault). IsNoGridAt setup.place setup.layer (solid_of (placed setup.place facets)).facets x) e bad

    by : GridKind f → IsOpenFault setup input f
    by (inl (cause, e)) =
        subst (λ (x : SessionFault). IsOpenFault setup input x) (sym e) (range, (facets, reads, reach, closed, same (fault.Grid cause) e))
    by (inr (cause, e)) =
        subst (λ (x : SessionFault). IsOpenFault setup input x) (sym e) (range, inr (facets, reads, reach, closed, same (fault.Screen cause) e))

-- it is not that memory failed
pub not-memory : (p : Place) (layer : _) (facets : List Facet) (f : SessionFault) → IsNoGridAt p layer facets f → f ≡ fault.Memory → ⊥
not-memory p layer facets f bad is = by (kind p layer facets f bad)
  where
    by : GridKind f → ⊥
    by (inl (cause, e)) = cc
    by (inr (cause, e)) = cc
