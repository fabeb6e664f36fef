pub mod DescriptorParts
