-- Files, services and methods are the same where they stand at one place, under one name.
use Rattle.std.specs.Prelude.{◌==◌, ◌&&◌, Bool, bytes_eq}
use Rattle.reflect_tables.specs.Types.{service_at}
use Rattle.reflect_link.specs.FileTypes.{file_type_at}
use Rattle.reflect_link.specs.declared.file.FileDescriptor.{FileDescriptor}
use Rattle.reflect_link.specs.declared.service.MethodDescriptor.{MethodDescriptor}
use Rattle.reflect_link.specs.declared.service.ServiceDescriptor.{ServiceDescriptor}

abbrev pub same_file : FileDescriptor → FileDescriptor → Bool
same_file a b = (a.index == b.index)
    && bytes_eq (file_type_at a.pool.now a.index).name (file_type_at b.pool.now b.index).name

abbrev pub same_service : ServiceDescriptor → ServiceDescriptor → Bool
same_service a b = (a.index == b.index)
    && bytes_eq (service_at a.pool.now a.index).full_name (service_at b.pool.now b.index).full_name

abbrev pub same_method : MethodDescriptor → MethodDescriptor → Bool
same_method a b = (a.index == b.index) && same_service a.service b.service
