pub mod PacketPcr
