-- What the iterator over a service's methods has left: each by its service and its place there.
use Rattle.std.specs.Prelude.{ℕ, List, length}
use Rattle.reflect_tables.specs.Types.{service_at}
use Rattle.reflect_pool.specs.PlacesLeft.{places_from}
use Rattle.reflect_link.specs.declared.service.MethodDescriptor.{MethodDescriptor}
use Rattle.reflect_link.specs.declared.service.Methods.{Methods}
use Rattle.reflect_link.specs.declared.service.ServiceDescriptor.{ServiceDescriptor}

abbrev pub method_place : MethodDescriptor → ServiceDescriptor × ℕ
method_place m = (m.service, m.index)

abbrev pub methods_left : Methods → List (ServiceDescriptor × ℕ)
methods_left s =
    places_from s.service s.next (length (service_at s.service.pool.now s.service.index).methods)
